-- The walk's invariant: what is known, the result so far, and the rest that gives the whole. Assumes nothing.
use Rattle.std.proofs.Common.{ℕ, suc, ◌+◌, ◌*◌, ◌-◌, ◌≤◌, ◌<◌, ◌≡◌, refl, sym, ◌∙◌, ap, subst, List, [], ◌∷◌, ◌++◌, append_assoc, append-nil, add-one, arith, length, take, drop, get_or, set, length-set, drop_of_length-le, drop-cons, Option, None, Some, Result, Ok, Err}
use lib.ListN.{length-replicate}
use Rattle.pcode.specs.Block.{blank_stmt, blank_stmts}
use Rattle.pcode.specs.declared.var.VarId.{VarId}
use Rattle.pcode.specs.declared.block.Stmt.{Stmt}
use Rattle.vars.specs.Vars.{ids_of}
use Rattle.const_eval.specs.State.{State, Good, Able}
use Rattle.uses.specs.Operands.{InOperand}
use Rattle.widen.specs.Turn.{turn_of}
use Rattle.widen.specs.Widen.{one_m}
use Rattle.widen.specs.Widen.{refusal_of, made_in}
use Rattle.widen.specs.declared.widen.Why.{Why}
use Rattle.pcode.specs.declared.var.PcodeLabel.{PcodeLabel}
use Rattle.pcode.specs.declared.block.Block.{Block}
use Rattle.widen.specs.declared.widen.Made.{Made}
use Rattle.simplify.specs.Simplify.{InOutput, Apt}
use Rattle.simplify.proofs.Grows.{Grown, able_le, able_grown}
use Rattle.const_step.specs.Labels.{target_of, targets_of, end_of}
use Rattle.const_step.specs.Steps.{Step, step_by}
use Rattle.const_step.proofs.Turns.{Shaped, none, one, two, step_shaped, step_grown, end_shaped}
use Rattle.const_prop.specs.Pass.{Env, Walk, least_from, all_ids, zero_var, least_of, step_of, stmts_of, after_step, gives, answer_by, walk_from, start_state, start_walk, zeros, InStore}
use Rattle.const_prop.proofs.Least.{least_append, ids_append, ids_none, least_nil, least_ids_one, least_ids_two}
use Rattle.const_prop.proofs.Lists.{blanks_length, blanks_split, put_more, put_two, shaped_body, shaped_length, shaped_small, shaped_targets}

abbrev pub walk_of : State → Option PcodeLabel → List Stmt → Walk
walk_of s k l = record { state = s; skip = k; made = l }

-- before statement i: k statements stand in the result, and the rest of the walk gives the whole
pub record Going (env : Env) (n i k : ℕ) (s : State) (skip : Option PcodeLabel) (least : VarId) (result : List Stmt) (jumps : List ℕ) : Type 0 where
  pub done : List Stmt
  pub body : result ≡ done ++ drop k blank_stmts
  pub count : k ≡ length done
  pub small : k ≤ 2 * i
  pub within : i ≤ n
  pub targets : take k jumps ≡ targets_of done
  pub least_is : least ≡ least_of env done
  pub able : Able (4 * (64 - i)) s
  pub used_rows : length s.used ≡ 48
  pub map_room : length s.map ≡ 33536
  pub whole : walk_from env i (walk_of s skip done) (drop i env.block) ≡ walk_from env 0 start_walk env.block

-- as many zeros as asked for
pub zeros_length : (n : ℕ) → length (zeros n) ≡ n
unfolding zeros
zeros_length n = length-replicate {A = ℕ} n 0

start_good : Good start_state
start_good = record { rows = zeros_length 6144 ∙ sym (ap (λ (k : ℕ). 128 * k) (zeros_length 48)); room = omega (arith, zeros_length 33536); inside = tt }

pub going_start : (env : Env) (n : ℕ) (s : State) (k : Option PcodeLabel) (least : VarId) (result : List Stmt) (jumps : List ℕ) → s ≡ start_state → k ≡ start_walk.skip
    → least ≡ least_from zero_var (all_ids env.block) → result ≡ blank_stmts → Going env n 0 0 s k least result jumps
going_start env n s k least result jumps es ek el er =
    record {
      done = [];
      body = er;
      count = refl;
      small = omega arith;
      within = omega arith;
      targets = refl;
      least_is = el ∙ ids_none (least_from zero_var (all_ids env.block));
      able = subst (λ (z : State). Able 256 z) (sym es) (record { good = start_good; room = omega (arith, zeros_length 33536); ids = omega arith; rows = omega (arith, zeros_length 48) });
      used_rows = ap (λ (z : State). length z.used) es ∙ zeros_length 48;
      map_room = ap (λ (z : State). length z.map) es ∙ zeros_length 33536;
      whole = ap (λ (z : State). walk_from env 0 (walk_of z k []) env.block) es ∙ ap (λ (z : Option PcodeLabel). walk_from env 0 (walk_of start_state z []) env.block) ek;
    }

-- what a statement asks of the state that it meets
pub going_apt : (env : Env) (n i k : ℕ) (s : State) (skip : Option PcodeLabel) (least : VarId) (result : List Stmt) (jumps : List ℕ) (st : Stmt)
    → Going env n i k s skip least result jumps → i < n → n ≤ 64 → InStore env.vars st → Apt env.vars st s
going_apt env n i k s skip least result jumps st g h m p =
    record {
      able = able_le 4 (4 * (64 - i)) s (omega (arith, h, m)) g.able;
      first = subst (λ (r : ℕ). InOperand r env.vars st.first) (sym g.used_rows) p.first;
      second = subst (λ (r : ℕ). InOperand r env.vars st.second) (sym g.used_rows) p.second;
      output = subst (λ (r : ℕ). InOutput r env.vars st.output) (sym g.used_rows) p.output;
    }

-- the step that the code takes is the walk's
pub step_is : (env : Env) (n i k : ℕ) (s : State) (skip : Option PcodeLabel) (least : VarId) (result : List Stmt) (jumps below : List ℕ) (st : Stmt) (x : Step)
    → (g : Going env n i k s skip least result jumps) → below ≡ targets_of (drop (i + 1) env.block)
    → x ≡ step_by env.vars env.temp below (take k jumps) least skip (turn_of st.op) st s
    → x ≡ step_of env (drop (i + 1) env.block) (walk_of s skip g.done) st
unfolding step_of
step_is env n i k s skip least result jumps below st x g b e =
    e
    ∙ ap (λ (z : List ℕ). step_by env.vars env.temp z (take k jumps) least skip (turn_of st.op) st s) b
    ∙ ap (λ (z : List ℕ). step_by env.vars env.temp (targets_of (drop (i + 1) env.block)) z least skip (turn_of st.op) st s) g.targets
    ∙ ap (λ (z : VarId). step_by env.vars env.temp (targets_of (drop (i + 1) env.block)) (targets_of g.done) z skip (turn_of st.op) st s) g.least_is

-- the walk's rest, one statement on
walk_next : (env : Env) (i : ℕ) (w : Walk) → i < length env.block
    → walk_from env i w (drop i env.block)
    ≡ answer_by (step_of env (drop (i + 1) env.block) w (get_or env.block i blank_stmt)).made i
    (walk_from env (i + 1) (after_step w (step_of env (drop (i + 1) env.block) w (get_or env.block i blank_stmt))) (drop (i + 1) env.block))
unfolding walk_from
walk_next env i w h = rw (drop-cons env.block i blank_stmt h, add-one i)

module _ (env : Env) (n i k : ℕ) (s : State) (skip : Option PcodeLabel) (least : VarId) (result : List Stmt) (jumps : List ℕ)
    (g : Going env n i k s skip least result jumps) (h : i < n) (l : n ≡ length env.block) (u : State) (y : Result Made Why) (st : Stmt)
    (es : st ≡ get_or env.block i blank_stmt)
    (e : record { state = u; made = y } ≡ step_of env (drop (i + 1) env.block) (walk_of s skip g.done) st) where
  e' : record { state = u; made = y } ≡ step_of env (drop (i + 1) env.block) (walk_of s skip g.done) (get_or env.block i blank_stmt)
  e' = e ∙ ap (step_of env (drop (i + 1) env.block) (walk_of s skip g.done)) es

  next_is : answer_by y i (walk_from env (i + 1) (after_step (walk_of s skip g.done) (record { state = u; made = y })) (drop (i + 1) env.block))
      ≡ walk_from env 0 start_walk env.block
  next_is =
      ap (λ (z : Step). answer_by z.made i (walk_from env (i + 1) (after_step (walk_of s skip g.done) z) (drop (i + 1) env.block))) e'
      ∙ sym (walk_next env i (walk_of s skip g.done) (omega (arith, h, l)))
      ∙ g.whole

  -- a refused statement ends the walk
  pub going_refused : (w : Why) → y ≡ Err w → Err (refusal_of w i) ≡ walk_from env 0 start_walk env.block
  going_refused w q = sym (ap (λ (z : Result Made Why). answer_by z i (walk_from env (i + 1) (after_step (walk_of s skip g.done) (record { state = u; made = y })) (drop (i + 1) env.block))) q) ∙ next_is

  shaped_in : Shaped (made_in y)
  unfolding step_of
  shaped_in =
      subst Shaped (sym (ap (λ (z : Step). made_in z.made) e))
      (step_shaped env.vars env.temp (targets_of (drop (i + 1) env.block)) (targets_of g.done) (least_of env g.done) skip (turn_of st.op) st s)

  grown : Apt env.vars st s → Grown 4 s u
  unfolding step_of
  grown a =
      subst (λ (z : State). Grown 4 s z) (sym (ap (λ (z : Step). z.state) e))
      (step_grown env.vars env.temp (targets_of (drop (i + 1) env.block)) (targets_of g.done) (least_of env g.done) skip (turn_of st.op) st s a)

  -- what a step that is not refused gives
  shaped : (m : Made) → y ≡ Ok m → Shaped m
  shaped m ey = subst Shaped (ap made_in ey) shaped_in

  -- a step gives two statements at most
  pub going_two : (m : Made) → y ≡ Ok m → m.count ≤ 2
  going_two m ey = shaped_small m (shaped m ey)

  least_made : (m : Made) → y ≡ Ok m → (x : VarId) → least_from (least_from x (ids_of m.first)) (ids_of m.second) ≡ least_from x (all_ids (stmts_of m))
  least_made m ey x = go m (shaped m ey)
    where
      go : (m : Made) → Shaped m → least_from (least_from x (ids_of m.first)) (ids_of m.second) ≡ least_from x (all_ids (stmts_of m))
      go m (none t) = sym (least_nil (least_from x [])) ∙ sym (least_nil x) ∙ ids_none x
      go m (one a) = least_ids_one x a
      go m (two a b) = least_ids_two x a b

  -- one statement on
  pub going_on : (m : Made) → y ≡ Ok m → (least' : VarId) (jumps' : List ℕ) → Apt env.vars st s → n ≤ 64 → k + 1 < length jumps
      → least' ≡ least_from (least_from least (ids_of m.first)) (ids_of m.second)
      → jumps' ≡ set (set jumps k (target_of m.first)) (k + 1) (target_of m.second)
      → Going env n (i + 1) (k + m.count) u m.skip least' (set (set result k m.first) (k + 1) m.second) jumps'
  going_on m ey least' jumps' a few room el ej =
      let v = grown a in
      let d = g.done in
      let sm = shaped m ey in
      let big : k + 2 ≤ 129 = omega (arith, g.small, h, few) in
      record {
        done = d ++ stmts_of m;
        body =
            ap (λ (z : List Stmt). set (set z k m.first) (k + 1) m.second) g.body
            ∙ put_two d m.first m.second k g.count big
            ∙ shaped_body m d k sm big;
        count = shaped_length m d k sm g.count;
        small = let z = shaped_small m sm in omega (arith, g.small, z);
        within = omega (arith, h);
        targets = ap (λ (z : List ℕ). take (k + m.count) z) ej ∙ shaped_targets m d jumps k sm room g.targets;
        least_is =
            el
            ∙ ap (λ (z : VarId). least_from (least_from z (ids_of m.first)) (ids_of m.second)) g.least_is
            ∙ least_made m ey (least_of env d)
            ∙ least_append (least_from zero_var (all_ids env.block)) (all_ids d) (all_ids (stmts_of m))
            ∙ ap (least_from (least_from zero_var (all_ids env.block))) (sym (ids_append d (stmts_of m)));
        able = able_grown 4 (4 * (64 - (i + 1))) s u (subst (λ (z : ℕ). Able z s) (let t : 4 * (64 - i) ≡ 4 + 4 * (64 - (i + 1)) = omega (arith, h, few) in t) g.able) v;
        used_rows = v.used_length ∙ g.used_rows;
        map_room = v.map_length ∙ g.map_room;
        whole =
            sym (ap (λ (z : Result Made Why). answer_by z i (walk_from env (i + 1) (after_step (walk_of s skip d) (record { state = u; made = z })) (drop (i + 1) env.block))) ey)
            ∙ next_is;
      }

-- a skip that meets the end gives one statement at most
pub one_at_most : (t : Option PcodeLabel) → (end_of t).count ≤ 1
one_at_most None = omega arith
one_at_most (Some l) = omega arith

-- the last place, taken by a branch or left blank
end_body : (e : Made) (d : List Stmt) (k : ℕ) → Shaped e → e.count ≤ 1 → k < 129 → k ≡ length d
    → ◌≡◌ {A = Block} (record { stmts = (d ++ (e.first ∷ [])) ++ drop (suc k) blank_stmts; count = k + e.count }) (record { stmts = (d ++ stmts_of e) ++ drop (length (d ++ stmts_of e)) blank_stmts; count = length (d ++ stmts_of e) })
end_body e d k s c room q = block_is _ _ _ _ (go e s c) (shaped_length e d k s q)
  where
    block_is : (x z : List Stmt) (i j : ℕ) → x ≡ z → i ≡ j → ◌≡◌ {A = Block} (record { stmts = x; count = i }) (record { stmts = z; count = j })
    block_is x z i j p q = cc

    go : (e : Made) → Shaped e → e.count ≤ 1 → (d ++ (e.first ∷ [])) ++ drop (suc k) blank_stmts ≡ (d ++ stmts_of e) ++ drop (length (d ++ stmts_of e)) blank_stmts
    go e (none t) c =
        append_assoc d (blank_stmt ∷ []) (drop (suc k) blank_stmts)
        ∙ ap (λ (z : List Stmt). d ++ z) (sym (blanks_split k room))
        ∙ ap (λ (j : ℕ). d ++ drop j blank_stmts) q
        ∙ ap (λ (z : List Stmt). z ++ drop (length z) blank_stmts) (sym (append-nil d))
    go e (one a) c = ap (λ (j : ℕ). (d ++ (a ∷ [])) ++ drop j blank_stmts) (sym (add-one k) ∙ shaped_length (one_m a) d k (one a) q)
    go e (two a b) c = absurd (omega (arith, c))

-- the whole block is done: a skip that meets the end becomes a branch there
pub going_end : (env : Env) (n i k : ℕ) (s : State) (skip : Option PcodeLabel) (least : VarId) (result : List Stmt) (jumps : List ℕ) (e : Made)
    → (g : Going env n i k s skip least result jumps) → n ≤ i → n ≡ length env.block → n ≤ 64 → e ≡ end_of skip
    → Ok (record { stmts = set result k e.first; count = k + e.count }) ≡ walk_from env 0 start_walk env.block
unfolding walk_from
going_end env n i k s skip least result jumps e g h l few q =
    let d = g.done in
    let room : k < 129 = omega (arith, g.small, g.within, few) in
    let rest : drop i env.block ≡ [] = drop_of_length-le env.block {i = i} (omega (arith, h, l)) in
    ap (λ (z : List Stmt). Ok (record { stmts = z; count = k + e.count }))
    (ap (λ (z : List Stmt). set z k e.first) g.body
    ∙ put_more d blank_stmts e.first blank_stmt k g.count (omega (arith, blanks_length, room)))
    ∙ ap (λ (z : Block). Ok z) (end_body e d k (subst Shaped (sym q) (end_shaped skip)) (subst (λ (z : Made). z.count ≤ 1) (sym q) (one_at_most skip)) room g.count)
    ∙ ap (λ (z : Made). gives (d ++ stmts_of z)) q
    ∙ sym (ap (walk_from env i (walk_of s skip d)) rest)
    ∙ g.whole

-- two places written
pub sets_length : (js new : List ℕ) (j k a b : ℕ) → new ≡ set (set js j a) k b → length new ≡ length js
sets_length js new j k a b e = ap length e ∙ length-set (set js j a) k b ∙ length-set js j a

-- What a statement gives to the result: nothing, one good statement, or two with one new id.
use Rattle.std.proofs.Common.{Option, None as Nothing, Some, Result, Ok, Err, ℕ, zero, suc, ◌+◌, ◌≤◌, ◌≡◌, refl, sym, ◌∙◌, ap, subst, Bool, true, false, true≢false, List, [], ◌∷◌, arith, eqb, eq-eqb, le-leb, ltb-true, ltb-false}
use Rattle.std.specs.Ordering.{int_eq}
use mathlib.Core.Bool.{false≢true}
use lib.IntN.{ℤ, pos, negsuc, pred_ℤ, ◌-ℤ◌, -ℤ_one}
use lib.Signed.{lt_z}
use Rattle.pcode.specs.Var.{pick, zero_id, same_id, less_id, least_id, below_id, size_of, as_operand}
use Rattle.pcode.specs.Rules.{fits_rule, sizes_one}
use Rattle.pcode.specs.Block.{has_id, stmt_of}
use Rattle.pcode.specs.declared.var.VarId.{VarId}
use Rattle.pcode.specs.declared.var.VarNode.{VarNode}
use Rattle.pcode.specs.declared.var.PcodeLabel.{PcodeLabel}
use Rattle.pcode.specs.declared.var.Operand.{Operand}
use Rattle.pcode.specs.declared.var.Operand.TheVariants.{None, Const, Var}
use Rattle.pcode.specs.Var.{Output}
use Rattle.std.specs.declared.option.Option.TheVariants as Out
use Rattle.pcode.specs.declared.op.OneOp.{OneOp}
use Rattle.pcode.specs.declared.op.OneOp.TheVariants.{Copy, ZeroExtend}
use Rattle.pcode.specs.declared.op.Op.TheVariants as Ops
use Rattle.pcode.specs.declared.block.Stmt.{Stmt}
use Rattle.pcode.proofs.Ids.{same_id_refl}
use Rattle.vars.specs.declared.Vars.{Vars}
use Rattle.vars.proofs.Rows.{has_here}
use Rattle.checks.specs.Statements.{good_node, good_operand, there, met_needs, good_sizes}
use Rattle.const_eval.specs.declared.place.Place.{Place}
use Rattle.uses.specs.Operands.{place_of}
use Rattle.widen.specs.declared.simple.Simple.{Simple}
use Rattle.widen.specs.declared.simple.Simple.TheVariants as Simples
use Rattle.widen.specs.declared.widen.Why.{Why}
use Rattle.widen.specs.declared.widen.Why.TheVariants as Whys
use Rattle.widen.specs.declared.widen.Made.{Made}
use Rattle.eval.specs.declared.EvalError.{EvalError}
use Rattle.widen.specs.Widen.{zeros_above, is_power, widened_of, lowest, copied_at, copied_of, added_of, nothing_m, one_m, two_m, kept_of, stays_of, made_of}
use Rattle.widen.proofs.Sizes.{widened_le}
use Rattle.const_prop.specs.Pass.{stmts_of, least_from}
use Rattle.first_checked.proofs.Fine.{In, Fine, in_within, within_more, size_good, good_size_lem, node_good, node_parts, parts_of, parts_good}
use Rattle.first_checked.proofs.Comes.{CopyOf, ComesTo}

-- an operation's statement gives these, and the skip after it
pub data Gives (ids : List VarId) (st : Stmt) : List Stmt → Option PcodeLabel → Type 0 where
  drops : Gives ids st [] Nothing
  skips : (l : PcodeLabel) → st.op ≡ Ops.PcodeBranch l → Gives ids st [] (Some l)
  copies : (s : Stmt) (k : OneOp) → s.op ≡ Ops.One k → Fine ids s → Gives ids st (s ∷ []) Nothing
  stays : (s : Stmt) → s.op ≡ st.op → Fine ids s → Gives ids st (s ∷ []) Nothing
  widens : (x : VarId) (s z : Stmt) (k : OneOp) → s.op ≡ st.op → z.op ≡ Ops.One k → Fine (x ∷ ids) s → Fine (x ∷ ids) z
      → Gives ids st (s ∷ (z ∷ [])) Nothing

-- an id is not above 0
abbrev pub Low : VarId → Type 0
Low x = lt_z (pos 0) x.0 ≡ false

lower : (a b : ℤ) → lt_z (pos 0) a ≡ false → lt_z b a ≡ true → lt_z (pos 0) b ≡ false
lower (pos a) (pos b) e h = absurd (let p = ltb-true b a h in let q = ltb-false 0 a e in omega (arith, p, q))
lower (negsuc a) (pos b) e h = absurd (false≢true h)
lower a (negsuc b) e h = refl

least_low : (x : VarId) (ys : List VarId) → Low x → Low (least_from x ys)
unfolding least_from
least_low x [] h = h
least_low x (y ∷ ys) h = least_low (least_id x y) ys (go (less_id y x) refl)
  where
    go : (t : Bool) → less_id y x ≡ t → Low (pick t y x)
    go true e = lower x.0 y.0 h e
    go false e = h

-- the least of 0 and other ids is not above 0
pub least_of_low : (a b : List VarId) → Low (least_from (least_from (record { 0 = pos 0 }) a) b)
least_of_low a b = least_low (least_from (record { 0 = pos 0 }) a) b (least_low (record { 0 = pos 0 }) a refl)

pred_apart : (z : ℤ) → lt_z (pos 0) z ≡ false → int_eq (z -ℤ pos 1) (pos 0) ≡ false
pred_apart z e = ap (λ (x : ℤ). int_eq x (pos 0)) (-ℤ_one z) ∙ go z e
  where
    go : (z : ℤ) → lt_z (pos 0) z ≡ false → int_eq (pred_ℤ z) (pos 0) ≡ false
    go (pos zero) e = refl
    go (pos (suc n)) e = absurd (let q = ltb-false 0 (suc n) e in omega (arith, q))
    go (negsuc n) e = refl

-- an added temporary's id is not 0
below_apart : (x : VarId) → Low x → same_id (below_id x) x ≡ false → zero_id (below_id x) ≡ false
below_apart x l e = go (int_eq x.0 (negsuc 32767)) e
  where
    go : (t : Bool) → same_id (pick t x (record { 0 = x.0 -ℤ pos 1 })) x ≡ false → zero_id (pick t x (record { 0 = x.0 -ℤ pos 1 })) ≡ false
    go true e = absurd (true≢false (sym (same_id_refl x) ∙ e))
    go false e = pred_apart x.0 l

-- a widened size is not below the size
pub widened_ge : (store : List ℕ) (p : Place) (w : ℕ) → widened_of store p ≡ Some w → p.size ≤ w
unfolding widened_of
widened_ge store p w q = go (eqb p.offset 0) (eqb (zeros_above store p) 0) (is_power (p.size + zeros_above store p)) q
  where
    z : ℕ
    z = zeros_above store p

    go : (a b c : Bool) → ◌≡◌ {A = Option ℕ} (pick a (pick b Nothing (pick c (Some (p.size + z)) Nothing)) Nothing) (Some w) → p.size ≤ w
    go false b c q = absurd (cc)
    go true true c q = absurd (cc)
    go true false true q = let k : p.size + z ≡ w = cc in omega (arith, k)
    go true false false q = absurd (cc)

-- an operation on one operand
one_fine : (ids : List VarId) (k : OneOp) (o : VarNode) (a : Operand) → good_node o ≡ true → has_id ids o.id ≡ true → good_operand a ≡ true → In ids a → there a ≡ true
    → fits_rule (sizes_one k) (size_of a) 0 o.size ≡ true → Fine ids (stmt_of (Ops.One k) (Out.Some o) a None)
unfolding met_needs good_sizes
one_fine ids k o a og oi ag ai t z =
    record {
      good = record { parts = parts_good (stmt_of (Ops.One k) (Out.Some o) a None) (record { output = og; first = ag; second = refl }); needs = rw t; sizes = z };
      output = oi;
      first = ai;
      second = tt;
    }

-- the lowest bytes of an output's variable
lowest_good : (o : VarNode) (w : ℕ) → good_node o ≡ true → 1 ≤ w → w ≤ 16 → good_node (record { id = o.id; offset = 0; size = w }) ≡ true
lowest_good o w g h k = node_good (record { id = o.id; offset = 0; size = w }) (node_parts o g).id (size_good w h k) (omega (arith, k))

module _ (ids : List VarId) (st : Stmt) where
  -- a copy, by its widened size
  module _ (o : VarNode) (a : Operand) (c : CopyOf ids o a) (w : ℕ) where
    wide_copy : 1 ≤ w → w ≤ 16 → o.size ≤ w → (b : Operand) → a ≡ b → Gives ids st (copied_at w o b ∷ []) Nothing
    wide_copy h k l None e = absurd (false≢true (ap there (sym e) ∙ c.present))
    wide_copy h k l (Const v n) e =
        copies (copied_at w o (Const v n)) Copy refl
        (one_fine ids Copy (record { id = o.id; offset = 0; size = w }) (Const v w) (lowest_good o w c.output h k) c.output_in (size_good w h k) tt refl (eq-eqb w w refl))
    wide_copy h k l (Var v) e =
        copies (copied_at w o (Var v)) ZeroExtend refl
        (one_fine ids ZeroExtend (record { id = o.id; offset = 0; size = w }) (Var v) (lowest_good o w c.output h k) c.output_in (ap good_operand (sym e) ∙ c.good) (subst (In ids) e c.value_in) refl
        (le-leb v.size w (let z : v.size ≡ o.size = ap size_of (sym e) ∙ c.size in omega (arith, z, l))))

  copied_gives : (o : VarNode) (a : Operand) → CopyOf ids o a → (w : Option ℕ) → ((n : ℕ) → w ≡ Some n → (o.size ≤ n) × (n ≤ 16)) → Gives ids st (copied_of w o a ∷ []) Nothing
  copied_gives o a c Nothing l =
      copies (stmt_of (Ops.One Copy) (Out.Some o) a None) Copy refl
      (one_fine ids Copy o a c.output c.output_in c.good c.value_in c.present (eq-eqb (size_of a) o.size c.size))
  copied_gives o a c (Some n) l =
      let k = l n refl in
      let g = good_size_lem o.size (node_parts o c.output).size in
      wide_copy o a c n (omega (arith, k.0, g.0)) k.1 k.0 a refl

  -- a statement that stays, with its output at a temporary
  module _ (s : Stmt) (q : s.op ≡ st.op) (f : Fine ids s) where
    module _ (o : VarNode) (e : s.output ≡ Out.Some o) (w : ℕ) (least : VarId) where
      abbrev added : VarNode
      added = added_of least o

      abbrev more : List VarId
      more = below_id least ∷ ids

      o_good : good_node o ≡ true
      o_good = ap (λ (x : Output). good_operand (as_operand x)) (sym e) ∙ (parts_of s f.good).output

      added_good : zero_id (below_id least) ≡ false → good_node added ≡ true
      added_good z = let g = good_size_lem o.size (node_parts o o_good).size in node_good added z (node_parts o o_good).size (omega (arith, g.1))

      moved_fine : zero_id (below_id least) ≡ false → Fine more (stmt_of s.op (Out.Some added) s.first s.second)
      unfolding met_needs good_sizes
      moved_fine z =
          let p = parts_of s f.good in
          record {
            good =
                record {
                  parts = parts_good (stmt_of s.op (Out.Some added) s.first s.second) (record { output = added_good z; first = p.first; second = p.second });
                  needs = subst (λ (x : Output). met_needs (stmt_of s.op x s.first s.second) ≡ true) e f.good.needs;
                  sizes = subst (λ (x : Output). good_sizes (stmt_of s.op x s.first s.second) ≡ true) e f.good.sizes;
                };
            output = has_here (below_id least) ids (below_id least) (same_id_refl (below_id least));
            first = in_within ids more s.first (within_more (below_id least) ids) f.first;
            second = in_within ids more s.second (within_more (below_id least) ids) f.second;
          }

      extend_fine : zero_id (below_id least) ≡ false → 1 ≤ w → w ≤ 16 → o.size ≤ w → Fine more (stmt_of (Ops.One ZeroExtend) (lowest o w) (Var added) None)
      extend_fine z h k l =
          one_fine more ZeroExtend (record { id = o.id; offset = 0; size = w }) (Var added) (lowest_good o w o_good h k) (in_within ids more (Var o) (within_more (below_id least) ids) (subst (λ (x : Output). In ids (as_operand x)) e f.output))
          (added_good z) (has_here (below_id least) ids (below_id least) (same_id_refl (below_id least))) refl (le-leb o.size w l)

      kept_some : Low least → o.size ≤ w → w ≤ 16 → (m : Made) → kept_of (Some w) s o least ≡ Ok m → Gives ids st (stmts_of m) m.skip
      kept_some low l k m = go (same_id (below_id least) least) refl
        where
          a : Stmt
          a = stmt_of s.op (Out.Some added) s.first s.second

          b : Stmt
          b = stmt_of (Ops.One ZeroExtend) (lowest o w) (Var added) None

          g : 1 ≤ o.size
          g = (good_size_lem o.size (node_parts o o_good).size).0

          go : (u : Bool) → same_id (below_id least) least ≡ u → ◌≡◌ {A = Result Made Why} (pick u (Err Whys.NoTemporary) (Ok (two_m a b))) (Ok m) → Gives ids st (stmts_of m) m.skip
          go true y h = absurd (cc)
          go false y h =
              let z = below_apart least low y in
              let e : two_m a b ≡ m = cc in
              subst (λ (x : Made). Gives ids st (stmts_of x) x.skip) e (widens (below_id least) a b ZeroExtend q refl (moved_fine z) (extend_fine z (omega (arith, g, l)) k l))

    kept_gives : (o : VarNode) → s.output ≡ Out.Some o → (w : Option ℕ) (least : VarId) → Low least → ((n : ℕ) → w ≡ Some n → (o.size ≤ n) × (n ≤ 16)) → (m : Made) → kept_of w s o least ≡ Ok m
        → Gives ids st (stmts_of m) m.skip
    kept_gives o e Nothing least low l m h = let z : one_m s ≡ m = cc in subst (λ (x : Made). Gives ids st (stmts_of x) x.skip) z (stays s q f)
    kept_gives o e (Some n) least low l m h = let k = l n refl in kept_some o e n least low k.0 k.1 m h

    stays_gives : (store : List ℕ) (vars : Vars) (least : VarId) → Low least → (o : Output) → s.output ≡ o → (m : Made) → stays_of store vars o s least ≡ Ok m
        → Gives ids st (stmts_of m) m.skip
    stays_gives store vars least low Out.None e m h = let z : one_m s ≡ m = cc in subst (λ (x : Made). Gives ids st (stmts_of x) x.skip) z (stays s q f)
    stays_gives store vars least low (Out.Some o) e m h =
        kept_gives o e (widened_of store (place_of vars o)) least low (λ n z. (widened_ge store (place_of vars o) n z, widened_le store (place_of vars o) n z)) m h

  pub made_gives : (store : List ℕ) (vars : Vars) (x : Result Simple EvalError) (least : VarId) → Low least → ComesTo ids st x → (m : Made) → made_of store vars x least ≡ Ok m
      → Gives ids st (stmts_of m) m.skip
  made_gives store vars (Ok Simples.Dropped) least low c m h = let z : nothing_m Nothing ≡ m = cc in subst (λ (x : Made). Gives ids st (stmts_of x) x.skip) z drops
  made_gives store vars (Ok (Simples.Skips l)) least low c m h = let z : nothing_m (Some l) ≡ m = cc in subst (λ (x : Made). Gives ids st (stmts_of x) x.skip) z (skips l c)
  made_gives store vars (Ok (Simples.Copies o a)) least low c m h =
      let z : one_m (copied_of (widened_of store (place_of vars o)) o a) ≡ m = cc in
      subst (λ (x : Made). Gives ids st (stmts_of x) x.skip) z
      (copied_gives o a c (widened_of store (place_of vars o)) (λ n y. (widened_ge store (place_of vars o) n y, widened_le store (place_of vars o) n y)))
  made_gives store vars (Ok (Simples.Stays s)) least low c m h = stays_gives s c.0 c.1 store vars least low s.output refl m h
  made_gives store vars (Err e) least low c m h = absurd (cc)

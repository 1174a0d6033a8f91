-- The walk keeps exactly the statements that stay: the tables say which bytes are overwritten, needed, and read later.
use Rattle.std.proofs.Common.{ℕ, suc, ◌≤◌, ◌<◌, arith, ◌≡◌, refl, sym, ap, ◌∙◌, subst, Bool, true, false, not, ◌&&◌, ◌||◌, List, [], ◌∷◌, ◌++◌, length, get_or, set, take, drop, drop_of_length-le, take-append-drop, drop-cons, take-suc, length-take-le}
use lib.Seq.{append_snoc, set_at}
use Rattle.pcode.specs.Var.{as_operand}
use Rattle.pcode.specs.Rules.{side_effects}
use Rattle.pcode.specs.Block.{has_id, blank_stmt}
use Rattle.pcode.specs.declared.var.VarId.{VarId}
use Rattle.pcode.specs.Var.{Output}
use Rattle.std.specs.declared.option.Option.TheVariants as Out
use Rattle.pcode.specs.declared.op.CallOp.{CallOp}
use Rattle.pcode.specs.declared.op.CallOp.TheVariants.{Arg, PcodeOp, Hook, HookIf, TracerLoad, TracerStore}
use Rattle.pcode.specs.declared.op.Op.{Op}
use Rattle.pcode.specs.declared.block.Stmt.{Stmt}
use Rattle.pcode.proofs.Ids.{same_id_refl}
use Rattle.vars.specs.Vars.{ids_of, row_of}
use Rattle.vars.proofs.Rows.{ways, has_here, row_below}
use Rattle.live_tables.specs.declared.rows.Edge.{Edge}
use Rattle.live_tables.specs.declared.rows.Edge.TheVariants.{Inside, Branch, Label, Marker}
use Rattle.live_tables.specs.declared.rows.Rows.{Rows}
use Rattle.live_bytes.specs.Bytes.{inside, some_byte}
use Rattle.live_tables.specs.Rows.{edge_of, ends, is_marker, part_of, row_in, rows_of, Named}
use Rattle.dead_store.specs.Stays.{Judged, names, writes, overwritten, read_next, rewritten, read_later, needed, writes_some, stays, judged, judge, dead_of}
use Rattle.live_tables.specs.declared.tables.Tables.{Tables}
use Rattle.live_tables.specs.Tables.{view, reads_over, across_over, Stepped, no_tables}
use Rattle.live_tables.proofs.Rowwise.{nothing}
use Rattle.live_bytes.proofs.Runs.{any_none, any_same}
use Rattle.dead_store.proofs.Places.{Among, output_among, first_among, second_among, no_bytes, names_at, row_small}

-- Boolean laws: what is needed above a statement, of what is read next (n), rewritten (w) and read later (l) below it
absorb : (n w l : Bool) → ((n || (not w && l)) || l) ≡ (n || l)
absorb true w l = refl
absorb false true l = refl
absorb false false true = refl
absorb false false false = refl

over : (e : Edge) (n w l : Bool)
    → reads_over e (n || (not w && l)) l ≡ ((not (ends e) && n) || (not (not (ends e) && w) && (not (is_marker e) && ((ends e && n) || l))))
over Inside n w l = refl
over Branch n w l = absorb n w l
over Label n w l = absorb n w l
over Marker n w l = refl

across_over_lem : (e : Edge) (n w l : Bool) → across_over e (n || (not w && l)) l ≡ (not (is_marker e) && ((ends e && n) || l))
across_over_lem Inside n w l = refl
across_over_lem Branch n w l = absorb n w l
across_over_lem Label n w l = absorb n w l
across_over_lem Marker n w l = refl

meets_all : (f s : Bool) → (s || (f || false)) ≡ (((f || s) || false) || false)
meets_all true true = refl
meets_all true false = refl
meets_all false true = refl
meets_all false false = refl

regroup : (f s y z : Bool) → (s || (f || (y || z))) ≡ (((f || s) || y) || z)
regroup true true y z = refl
regroup true false y z = refl
regroup false true y z = refl
regroup false false y z = refl

-- of a statement that is kept or not, with a write o and reads f, s of the byte
needed_over : (e : Edge) (kept o f s n w l : Bool)
    → ((kept && s) || ((kept && f) || (not (kept && o) && reads_over e (n || (not w && l)) l)))
    ≡ (((kept && (f || s)) || (not (kept && o) && (not (ends e) && n))) || (not ((kept && o) || (not (ends e) && w)) && (not (is_marker e) && ((ends e && n) || l))))
needed_over e false o f s n w l = over e n w l
needed_over e true true f s n w l = meets_all f s
needed_over e true false f s n w l = ap (λ (b : Bool). s || (f || b)) (over e n w l) ∙ regroup f s _ _

-- the same with the walk's bits, each equal to what it stands for
needed_bits : (e : Edge) (kept o f s n w l live O F S R A : Bool) → live ≡ kept → O ≡ o → F ≡ f → S ≡ s → R ≡ (n || (not w && l)) → A ≡ l
    → ((live && S) || ((live && F) || (not (live && O) && reads_over e R A)))
    ≡ (((kept && (f || s)) || (not (kept && o) && (not (ends e) && n))) || (not ((kept && o) || (not (ends e) && w)) && (not (is_marker e) && ((ends e && n) || l))))
needed_bits e kept o f s n w l live O F S R A p q u v x y = rw (p, q, u, v, x, y) (needed_over e kept o f s n w l)

across_bits : (e : Edge) (n w l R A : Bool) → R ≡ (n || (not w && l)) → A ≡ l → across_over e R A ≡ (not (is_marker e) && ((ends e && n) || l))
across_bits e n w l R A x y = rw (x, y) (across_over_lem e n w l)

last_bits : (e : Edge) (o v O B : Bool) → O ≡ o → B ≡ v → (O || (not (ends e) && B)) ≡ (o || (not (ends e) && v))
last_bits e o v O B p q = rw (p, q)

live_bits : (e : Edge) (p o d P O R A : Bool) → e ≡ Inside → P ≡ p → O ≡ o → R ≡ d → ((P && not (not (ends e) && O)) || reads_over e R A) ≡ ((p && not o) || d)
live_bits e p o d P O R A x y z t = rw (x, y, z, t)

-- what ends a stretch has side effects
call_effects : (k : CallOp) (n : ℕ) → side_effects (Op.Call k n) ≡ true
call_effects Arg n = refl
call_effects PcodeOp n = refl
call_effects Hook n = refl
call_effects HookIf n = refl
call_effects TracerLoad n = refl
call_effects TracerStore n = refl

edge_effects : (op : Op) → ends (edge_of op) ≡ true → side_effects op ≡ true
edge_effects (Op.Trap t) e = refl
edge_effects Op.InstructionMarker e = refl
edge_effects (Op.PcodeLabel l) e = refl
edge_effects (Op.PcodeBranch l) e = refl
edge_effects (Op.Branch n) e = refl
edge_effects (Op.Load n) e = refl
edge_effects (Op.Store n) e = refl
edge_effects (Op.Call k n) e = call_effects k n
edge_effects (Op.Select n) e = cc
edge_effects (Op.Subpiece n) e = cc
edge_effects (Op.Opaque k) e = cc
edge_effects (Op.Float k) e = cc
edge_effects (Op.One k) e = cc
edge_effects (Op.Two k) e = cc
edge_effects (Op.Divide k) e = cc
edge_effects (Op.Shift k) e = cc
edge_effects (Op.Rotate k) e = cc
edge_effects (Op.Compare k) e = cc
edge_effects (Op.Bool k) e = cc

no_edge : (e : Edge) → ends e ≡ false → e ≡ Inside
no_edge Inside h = refl
no_edge Branch h = cc
no_edge Label h = cc
no_edge Marker h = cc

module _ (l : List VarId) where
  -- the tables say, for each id, which bytes are overwritten, needed and read later
  pub record Says (js : List Judged) (t₀ : Tables) : Type 0 where
    pub last : (id : VarId) → has_id l id ≡ true → (k : ℕ) → view t₀.last (row_of l id) k ≡ overwritten js id k
    pub reads : (id : VarId) → has_id l id ≡ true → (k : ℕ) → view t₀.reads (row_of l id) k ≡ needed js id k
    pub across : (id : VarId) → has_id l id ≡ true → (k : ℕ) → view t₀.across (row_of l id) k ≡ read_later js id k

  pub says_none : Says [] no_tables
  unfolding overwritten read_next rewritten read_later
  says_none = record {
    last = λ id h k. nothing (row_of l id) k;
    reads = λ id h k. nothing (row_of l id) k;
    across = λ id h k. nothing (row_of l id) k;
  }

  module _ (persist : VarId → Bool) (p : List Bool) (small : length l ≤ 112)
      (keep : (id : VarId) → has_id l id ≡ true → get_or p (row_of l id) false ≡ persist id)
      (s : Stmt) (h : (id : VarId) → has_id (ids_of s) id ≡ true → has_id l id ≡ true) (js : List Judged)
      (t₀ t₁ : Tables) (y : Says js t₀) where
    some : (o : Output) → Among l (as_operand o) → (f : ℕ → ℕ → Bool) (g : VarId → ℕ → Bool)
        → ((id : VarId) → has_id l id ≡ true → (k : ℕ) → f (row_of l id) k ≡ g id k)
        → some_byte (λ k. inside (part_of (as_operand o)) k && f (row_in l (as_operand o)) k) ≡ writes_some o g
    some Out.None m f g e = any_none 16 _ (λ k n. rw (no_bytes k))
    some (Out.Some v) m f g e = any_same 16 _ _ (λ k. ap (λ (b : Bool). inside v k && b) (e v.id (m v.id (has_here v.id [] v.id (same_id_refl v.id))) k))

    module _ (live : Bool) (w : Stepped p s (rows_of l s) t₀ t₁ live) where
      pub live_stays : live ≡ stays persist s js
      unfolding rows_of
      live_stays =
          let q = w.stays (row_small l small (as_operand s.output) (output_among l s h)) in
          ways (ends (edge_of s.op))
          (λ t. q ∙ rw (edge_effects s.op t))
          (λ t. q ∙ ap (λ (b : Bool). side_effects s.op || b)
          (some s.output (output_among l s h)
          (λ i k. (get_or p i false && not (not (ends (edge_of s.op)) && view t₀.last i k)) || reads_over (edge_of s.op) (view t₀.reads i k) (view t₀.across i k))
          (λ id k. (persist id && not (overwritten js id k)) || needed js id k)
          (λ id m k. live_bits (edge_of s.op) (persist id) (overwritten js id k) (needed js id k) _ _ _ _ (no_edge (edge_of s.op) t) (keep id m) (y.last id m k) (y.reads id m k))))

      pub says_more : Says (judged persist s js) t₁
      unfolding rows_of overwritten read_next rewritten read_later
      says_more = record {
        last = λ id m k.
            w.last.bytes (row_of l id) k (omega (arith, row_below l id m, small))
            ∙ last_bits (edge_of s.op) (writes s id k) (overwritten js id k) _ _ (names_at l id m (as_operand s.output) (output_among l s h) k) (y.last id m k);
        reads = λ id m k.
            w.reads.bytes (row_of l id) k (omega (arith, row_below l id m, small))
            ∙ needed_bits (edge_of s.op) (stays persist s js) (writes s id k) (names s.first id k) (names s.second id k) (read_next js id k) (rewritten js id k) (read_later js id k)
            live _ _ _ _ _ live_stays (names_at l id m (as_operand s.output) (output_among l s h) k) (names_at l id m s.first (first_among l s h) k)
            (names_at l id m s.second (second_among l s h) k) (y.reads id m k) (y.across id m k);
        across = λ id m k.
            w.across.bytes (row_of l id) k (omega (arith, row_below l id m, small))
            ∙ across_bits (edge_of s.op) (read_next js id k) (rewritten js id k) (read_later js id k) _ _ (y.reads id m k) (y.across id m k);
      }

-- one more mark, from the back
mark_more : (l m : List Bool) (j : ℕ) (b : Bool) → j < length l → set (take (suc j) l ++ m) j b ≡ take j l ++ (b ∷ m)
mark_more l m j b h =
    rw (take-suc l j false h, append_snoc (take j l) (get_or l j false) m) (set_at (take j l) (get_or l j false) m b j (length-take-le j l (omega arith)))

pub stepped_of_lem : {s t : Stmt} {w x : Rows} (p : List Bool) (t₀ t₁ : Tables) (live : Bool) → s ≡ t → w ≡ x → Stepped p s w t₀ t₁ live → Stepped p t x t₀ t₁ live
stepped_of_lem {s} {t} {w} {x} p t₀ t₁ live d e f =
    subst (λ (u : Rows). Stepped p t u t₀ t₁ live) e (subst (λ (u : Stmt). Stepped p u w t₀ t₁ live) d f)

-- before statement i: the tables, and the marks written from i to n
module _ (l : List VarId) (persist : VarId → Bool) (p : List Bool) (ss : List Stmt) (n : ℕ) (old : List Bool) where
  pub record Walked (i : ℕ) (t₀ : Tables) (dead : List Bool) : Type 0 where
    pub says : Says l (judge persist (drop i ss)) t₀
    pub marks : dead ≡ take i old ++ (dead_of (judge persist (drop i ss)) ++ drop n old)

  module _ (e : length ss ≡ n) where
    pub walked_none : (t₀ : Tables) → t₀ ≡ no_tables → Walked n t₀ old
    unfolding judge dead_of
    walked_none t₀ x =
        let g : drop n ss ≡ [] = drop_of_length-le ss {i = n} (omega arith) in
        rw x (record { says = rw g (says_none l); marks = rw g (sym (take-append-drop n old)) })

    module _ (names : Named l ss) (keep : (id : VarId) → has_id l id ≡ true → get_or p (row_of l id) false ≡ persist id) where
      pub walked_more : (i j : ℕ) (t₀ t₁ : Tables) (dead : List Bool) (live : Bool) → i ≡ suc j → i ≤ n → n ≤ length old
          → Walked i t₀ dead → Stepped p (get_or ss j blank_stmt) (rows_of l (get_or ss j blank_stmt)) t₀ t₁ live → Walked j t₁ (set dead j (not live))
      unfolding judge dead_of
      walked_more i j t₀ t₁ dead live q k m w t =
          let s = get_or ss j blank_stmt in
          let h : (id : VarId) → has_id (ids_of s) id ≡ true → has_id l id ≡ true = λ id. names.names j id (omega arith) in
          let d : drop j ss ≡ s ∷ drop i ss = drop-cons ss j blank_stmt (omega arith) ∙ rw q in
          let x = live_stays l persist p names.small keep s h (judge persist (drop i ss)) t₀ t₁ w.says live t in
          record {
            says = rw d (says_more l persist p names.small keep s h (judge persist (drop i ss)) t₀ t₁ w.says live t);
            marks = rw (w.marks, d, x, q) (mark_more old (dead_of (judge persist (drop (suc j) ss)) ++ drop n old) j _ (omega arith));
          }

    pub walked_all : (i : ℕ) (t₀ : Tables) (dead : List Bool) → i ≡ 0 → Walked i t₀ dead → dead ≡ dead_of (judge persist ss) ++ drop n old
    walked_all i t₀ dead q w = w.marks ∙ rw q

-- A settled statement: what is known after it is valid for the state after the run's step, and what becomes of it has the same effect.
use Rattle.std.proofs.Common.{Option, None as Nothing, Some, Result, Ok, Err, ℕ, zero, suc, ◌+◌, ◌*◌, ◌%◌, ◌^◌, ◌≤◌, ◌<◌, arith, mod-lt, mod-eq_of_lt, ◌≡◌, refl, sym, ap, ap₂, ◌∙◌, subst, Bool, true, false, List, [], ◌∷◌, eqb-true, eqb, pow_pos, length, replicate}
use Rattle.pcode.specs.Var.{pick, size_of}
use Rattle.pcode.specs.Block.{has_id}
use Rattle.pcode.specs.Rules.{size_rule}
use Rattle.pcode.specs.declared.var.VarId.{VarId}
use Rattle.pcode.specs.declared.var.VarNode.{VarNode}
use Rattle.pcode.specs.declared.var.Operand.{Operand}
use Rattle.pcode.specs.declared.var.Operand.TheVariants.{Const}
use Rattle.std.specs.declared.option.Option.TheVariants as Out
use Rattle.pcode.specs.declared.op.Op.{Op}
use Rattle.pcode.specs.declared.op.Op.TheVariants.{Load}
use Rattle.pcode.specs.declared.block.Stmt.{Stmt}
use Rattle.vars.specs.Vars.{row_of, held_ids}
use Rattle.vars.specs.declared.Vars.{Vars}
use Rattle.vars.proofs.Rows.{ways}
use Rattle.bit.specs.Bits.{code_of, pick as choose}
use Rattle.bit.specs.declared.Bit.TheVariants.{Unknown}
use Rattle.bit.proofs.Codes.{round}
use Rattle.bit_vec.specs.Lists.{bits}
use Rattle.bit_vec.specs.Known.{const_of}
use Rattle.eval.specs.Held.{coded}
use Rattle.eval.specs.Sizes.{fits_bits}
use Rattle.eval.specs.Eval.{Outcome, done, family_of, outcome_of}
use Rattle.eval.specs.declared.EvalError.{EvalError}
use Rattle.eval.specs.declared.EvalError.TheVariants.{BadSizes}
use Rattle.meaning.specs.Meaning.{meaning}
use Rattle.const_eval.specs.declared.place.Place.{Place}
use Rattle.const_eval.specs.Known.{part_of, same_codes}
use Rattle.const_eval.specs.State as Known
use Rattle.const_eval.specs.State.{noted}
use Rattle.const_eval.proofs.Codes.{same_sound}
use Rattle.const_eval.proofs.Keeps.{good_within}
use Rattle.uses.specs.Operands.{place_of}
use Rattle.settle.specs.Settle.{named, source_of, decide_by, decide_of, written}
use Rattle.settle.specs.declared.Outcome.TheVariants as Fates
use Rattle.settle.proofs.Settles.{named_length}
use Rattle.simplify.specs.Simplify.{simple_by}
use Rattle.widen.specs.declared.simple.Simple.{Simple}
use Rattle.widen.specs.declared.simple.Simple.TheVariants as Simples
use Rattle.sound.specs.Sound.{Valuation, Agrees, num, low, computes}
use Rattle.sound.proofs.Numbers.{length_low, num_low}
use Rattle.sound.proofs.Coded.{sound_coded}
use Rattle.alike.proofs.Fits.{InRow}
use Rattle.alike.proofs.Havoc.{State, num_by, value_by, put_by}
use Rattle.alike.proofs.Parts.{Bytewise}
use Rattle.alike.proofs.Tables.{Known as KnownIn}
use Rattle.first_alike.proofs.Sure.{Holds, holds_agrees, holds_length, names_hold}
use Rattle.first_alike.proofs.Words.{num_small}
use Rattle.first_alike.proofs.Valid.{InUse, Below, Valid, more, more_below, more_at, noted_valid}
use Rattle.first_alike.proofs.Uses.{Stage, own_fit}
use Rattle.first_alike.proofs.Operands.{Canon, Stead, value_small, part_holds, same_number, const_value}
use Rattle.first_alike.proofs.Written.{written_rows}

-- unknown bits agree with anything
agree_unknown : (τ : Valuation) (n : ℕ) (vs : List Bool) → length vs ≡ n → Agrees τ (bits (replicate n (code_of Unknown))) vs
agree_unknown τ zero [] e = tt
agree_unknown τ zero (v ∷ vs) e = absurd (omega (arith, e))
agree_unknown τ (suc n) [] e = absurd (omega (arith, e))
agree_unknown τ (suc n) (v ∷ vs) e = (rw (round Unknown tt) tt, agree_unknown τ n vs (omega (arith, e)))

agree_none : (τ : Valuation) (old : List ℕ) (n x : ℕ) → length old ≡ 0 → length old ≡ 8 * n → Agrees τ (bits old) (low (8 * n) x)
agree_none τ [] n x e l = let q : n ≡ 0 = omega (arith, l) in subst (λ (m : ℕ). Agrees τ [] (low (8 * m) x)) (sym q) tt
agree_none τ (y ∷ old) n x e l = absurd (omega (arith, e))

-- the evaluator's cells, by its two tests
abbrev outcome : Op → List ℕ → List ℕ → List ℕ → Bool → Bool → Outcome ℕ
outcome op xa xb old t u = choose t (done old) (choose u (family_of coded op xa xb old) (record { answer = Err BadSizes; cells = old }))

not_done : {R : Type 0} → ◌≡◌ {A = Result (Unit {0}) EvalError} (Err BadSizes) (Ok tt) → R
not_done e = absurd (cc)

-- an operation that computes agrees with its meaning
pub computes_agrees : (op : Op) → computes op ≡ true → (τ : Valuation) (xa xb old : List ℕ) (a b n va vb : ℕ) → Holds τ xa (low (8 * a) va) → Holds τ xb (low (8 * b) vb)
    → va < 2 ^ (8 * a) → vb < 2 ^ (8 * b) → length old ≡ 8 * n → (outcome_of coded op xa xb old).answer ≡ Ok tt
    → Agrees τ (bits (outcome_of coded op xa xb old).cells) (low (8 * n) (meaning op (8 * a) (8 * n) va vb))
computes_agrees op c τ xa xb old a b n va vb ha hb la lb lo d = ways (fits_bits (size_rule op) (length xa) (length xb) (length old)) fits wrong
  where
    fits : fits_bits (size_rule op) (length xa) (length xb) (length old) ≡ true → Agrees τ (bits (outcome_of coded op xa xb old).cells) (low (8 * n) (meaning op (8 * a) (8 * n) va vb))
    fits e =
        let p : length xa ≡ 8 * a = holds_length τ xa (low (8 * a) va) ha ∙ length_low (8 * a) va in
        let q : num (low (8 * a) va) ≡ va = num_low (8 * a) va ∙ mod-eq_of_lt la in
        let r : num (low (8 * b) vb) ≡ vb = num_low (8 * b) vb ∙ mod-eq_of_lt lb in
        let m : low (length old) (meaning op (length xa) (length old) (num (low (8 * a) va)) (num (low (8 * b) vb))) ≡ low (8 * n) (meaning op (8 * a) (8 * n) va vb) =
        ap₂ (λ (i j : ℕ). low j (meaning op i j (num (low (8 * a) va)) (num (low (8 * b) vb)))) p lo
        ∙ ap₂ (λ (i j : ℕ). low (8 * n) (meaning op (8 * a) (8 * n) i j)) q r in
        subst (λ (vs : List Bool). Agrees τ (bits (outcome_of coded op xa xb old).cells) vs) m
        (sound_coded op c τ xa xb old (low (8 * a) va) (low (8 * b) vb) e (holds_agrees τ xa (low (8 * a) va) ha) (holds_agrees τ xb (low (8 * b) vb) hb))

    none : (t : Bool) → eqb (length old) 0 ≡ t → (outcome op xa xb old t false).answer ≡ Ok tt
        → Agrees τ (bits (outcome op xa xb old t false).cells) (low (8 * n) (meaning op (8 * a) (8 * n) va vb))
    none true e d = agree_none τ old n _ (eqb-true (length old) 0 e) lo
    none false e d = not_done d

    wrong : fits_bits (size_rule op) (length xa) (length xb) (length old) ≡ false → Agrees τ (bits (outcome_of coded op xa xb old).cells) (low (8 * n) (meaning op (8 * a) (8 * n) va vb))
    wrong e =
        subst (λ (u : Bool). (outcome op xa xb old (eqb (length old) 0) u).answer ≡ Ok tt → Agrees τ (bits (outcome op xa xb old (eqb (length old) 0) u).cells) (low (8 * n) (meaning op (8 * a) (8 * n) va vb)))
        (sym e) (none (eqb (length old) 0) refl) d

-- a load agrees with any answer
pub load_agrees : (m : ℕ) (τ : Valuation) (xa xb old : List ℕ) (n x : ℕ) → length old ≡ 8 * n → Agrees τ (bits (outcome_of coded (Load m) xa xb old).cells) (low (8 * n) x)
load_agrees m τ xa xb old n x lo = go (eqb (length old) 0) refl
  where
    go : (t : Bool) → eqb (length old) 0 ≡ t → Agrees τ (bits (outcome (Load m) xa xb old t true).cells) (low (8 * n) x)
    go true e = agree_none τ old n x (eqb-true (length old) 0 e) lo
    go false e = agree_unknown τ (length old) (low (8 * n) x) (length_low (8 * n) x ∙ sym lo)

-- what becomes of a statement that writes x to o
abbrev pub Worth : List VarId → State → VarNode → ℕ → Stmt → Result Simple EvalError → Type 0
Worth ids s o x st (Ok Simples.Dropped) = x % 2 ^ (8 * o.size) ≡ num_by s o.id o.offset o.size
Worth ids s o x st (Ok (Simples.Skips l)) = ⊥
Worth ids s o x st (Ok (Simples.Copies q a)) = (q ≡ o) × (value_by s a ≡ x % 2 ^ (8 * o.size)) × KnownIn ids a × InRow a × Canon a × (size_of a ≡ o.size)
Worth ids s o x st (Ok (Simples.Stays r)) = r ≡ st
Worth ids s o x st (Err e) = Unit {0}

-- not refused
abbrev pub Fair : Result Simple EvalError → Type 0
Fair (Ok Simples.Dropped) = Unit {0}
Fair (Ok (Simples.Skips l)) = Unit {0}
Fair (Ok (Simples.Copies q a)) = Unit {0}
Fair (Ok (Simples.Stays r)) = Unit {0}
Fair (Err e) = ⊥

module _ (vars : Vars) (few : length (held_ids vars) ≤ 48) (K : Known.State) (s : State) (bytes : Bytewise s) (stage : Stage (held_ids vars) 1 K) (v : Valid (held_ids vars) K s)
    (o : VarNode) (here : has_id (held_ids vars) o.id ≡ true) (fit : o.offset + o.size ≤ 16) (inuse : InUse K.used (row_of (held_ids vars) o.id)) where
  abbrev ids : List VarId
  ids = held_ids vars

  abbrev p : Place
  p = place_of vars o

  in_store : 128 * row_of ids o.id + 128 ≤ length K.store
  in_store = (good_within p K stage.able.good (own_fit ids few p o.id here refl fit K stage.full)).row_in

  module _ (cells : List ℕ) (x : ℕ) (long : length cells ≡ 8 * o.size)
      (agrees : (τ : Valuation) → Below K.tally.next v.values τ → Agrees τ (bits cells) (low (8 * o.size) x)) where
    abbrev new : List ℕ
    new = named K.tally.next cells

    abbrev now : Valuation
    now = more v.values K.tally.next (low (8 * o.size) x)

    new_holds : (τ : Valuation) → Below (K.tally.next + 1) now τ → Holds τ new (low (8 * o.size) x)
    unfolding named
    new_holds τ b =
        let l : length (low (8 * o.size) x) ≡ 8 * o.size = length_low (8 * o.size) x in
        names_hold τ K.tally.next 0 cells (low (8 * o.size) x) (omega (arith, stage.able.ids)) (omega (arith, l, fit))
        (λ j q. ap (τ K.tally.next) (let z : 0 + j ≡ j = omega arith in z) ∙ more_at v.values τ K.tally.next (low (8 * o.size) x) b j)
        (agrees τ (more_below v.values τ K.tally.next (low (8 * o.size) x) b))

    new_long : length new ≡ 8 * o.size
    new_long = named_length K.tally.next cells ∙ long

    written_valid : Valid ids (written p new K) (put_by s (Out.Some o) x)
    written_valid =
        record {
          values = now;
          rows = λ τ b. written_rows ids τ K.used K.store s (v.rows τ (more_below v.values τ K.tally.next (low (8 * o.size) x) b)) o here fit in_store new x new_long (new_holds τ b);
        }

    pub valued_valid : Valid ids (noted p (written p new K)) (put_by s (Out.Some o) x)
    valued_valid = noted_valid ids p (written p new K) (put_by s (Out.Some o) x) written_valid

    -- the operands that the evaluator read, and what stands in their place
    module _ (a b : Operand) (xa xb : List ℕ) (st : Stmt) (ha : (τ : Valuation) → Below K.tally.next v.values τ → Holds τ xa (low (8 * size_of a) (value_by s a)))
        (hb : (τ : Valuation) → Below K.tally.next v.values τ → Holds τ xb (low (8 * size_of b) (value_by s b)))
        (sa : Stead ids s a st.first) (sb : Stead ids s b st.second) where
      now_below : Below K.tally.next v.values now
      now_below = more_below v.values now K.tally.next (low (8 * o.size) x) (λ i l w. refl)

      same : Holds now new (low (8 * o.size) x)
      same = new_holds now (λ i l w. refl)

      stays : (e : Bool) (r : Simple) → Worth ids s o x st (Ok r) → Worth ids s o x st (Ok (pick e (Simples.Stays st) r))
      stays true r h = refl
      stays false r h = h

      copies : (e : Bool) (c d : Operand) (xc : List ℕ) → Stead ids s c d → Holds now xc (low (8 * size_of c) (value_by s c)) → same_codes xc new ≡ true
          → Worth ids s o x st (Ok (pick e (Simples.Stays st) (Simples.Copies o d)))
      copies e c d xc sd hc t =
          let q : xc ≡ new = same_sound xc new t in
          let m = same_number vars few now new (size_of c) o.size (value_by s c) x (subst (λ (l : List ℕ). Holds now l (low (8 * size_of c) (value_by s c))) q hc) same in
          let l : value_by s c < 2 ^ (8 * o.size) = subst (λ (i : ℕ). value_by s c < 2 ^ (8 * i)) m.0 (value_small s c bytes) in
          stays e (Simples.Copies o d) (refl, sd.value ∙ sym (mod-eq_of_lt l) ∙ m.1, sd.known, sd.in_row, sd.canon, sd.size ∙ m.0)

      source : (e : Bool) (t u : Bool) → same_codes xa new ≡ t → same_codes xb new ≡ u → Worth ids s o x st (simple_by (Ok (pick t Fates.First (pick u Fates.Second Fates.Stays))) e o st)
      source e true u p q = copies e a st.first xa sa (ha now now_below) p
      source e false true p q = copies e b st.second xb sb (hb now now_below) q
      source e false false p q = refl

      constant : (e : Bool) (c : Option ℕ) → const_of (bits new) ≡ c → Worth ids s o x st (simple_by (Ok (decide_by c (source_of new xa xb))) e o st)
      constant e (Some k) q =
          let m : k ≡ x % 2 ^ (8 * o.size) = const_value vars few now new (8 * o.size) x k same q in
          let l : k < 2 ^ (8 * o.size) = subst (λ (i : ℕ). i < 2 ^ (8 * o.size)) (sym m) (mod-lt x (pow_pos (8 * o.size))) in
          stays e (Simples.Copies o (Const k o.size)) (refl, mod-eq_of_lt l ∙ m, tt, tt, l, refl)
      constant e Nothing q = source e (same_codes xa new) (same_codes xb new) refl refl

      decided : (e t : Bool) → same_codes (part_of p K.store) new ≡ t → Worth ids s o x st (simple_by (Ok (pick t Fates.Unchanged (decide_by (const_of (bits new)) (source_of new xa xb)))) e o st)
      decided e true q =
          let g : part_of p K.store ≡ new = same_sound (part_of p K.store) new q in
          let h = part_holds ids now K.used K.store s bytes (v.rows now now_below) o.id here inuse o.offset o.size fit in
          let m = same_number vars few now new o.size o.size (num_by s o.id o.offset o.size) x (subst (λ (l : List ℕ). Holds now l (low (8 * o.size) (num_by s o.id o.offset o.size))) g h) same in
          stays e Simples.Dropped (sym m.1 ∙ mod-eq_of_lt (num_small s o.id o.offset o.size bytes))
      decided e false q = constant e (const_of (bits new)) refl

      pub valued_worth : (e : Bool) → Worth ids s o x st (simple_by (Ok (decide_of (part_of p K.store) new xa xb)) e o st)
      valued_worth e = decided e (same_codes (part_of p K.store) new) refl

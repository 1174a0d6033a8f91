-- A statement's uses, and the output that it writes: what is known after them, and what the statement comes to.
use Rattle.std.proofs.Common.{ℕ, ◌+◌, ◌*◌, ◌≤◌, arith, ◌≡◌, refl, sym, ◌∙◌, subst, true, List, length, Option, None as Nothing, Some, Result, Ok, Err}
use Rattle.pcode.specs.Var.{size_of, as_operand}
use Rattle.pcode.specs.Block.{has_id}
use Rattle.pcode.specs.Rules.{side_effects}
use Rattle.pcode.specs.declared.var.VarId.{VarId}
use Rattle.pcode.specs.declared.var.VarNode.{VarNode}
use Rattle.std.specs.declared.option.Option.TheVariants as Out
use Rattle.pcode.specs.declared.block.Stmt.{Stmt}
use Rattle.vars.specs.Vars.{row_of, held_ids}
use Rattle.vars.specs.declared.Vars.{Vars}
use Rattle.bit_vec.specs.Lists.{bits}
use Rattle.eval.specs.Held.{coded}
use Rattle.eval.specs.Eval.{outcome_of}
use Rattle.eval.specs.declared.EvalError.{EvalError}
use Rattle.eval.proofs.Lengths.{length_outcome}
use Rattle.const_eval.specs.declared.place.Place.{Place}
use Rattle.const_eval.specs.Known.{part_of}
use Rattle.const_eval.specs.State as Known
use Rattle.const_eval.specs.State.{first_use, map_gives, noted_by, noted}
use Rattle.const_eval.proofs.Parts.{part_length}
use Rattle.const_eval.proofs.Keeps.{good_within}
use Rattle.uses.specs.Operands.{place_of, operand_bits, used_by}
use Rattle.settle.specs.Settle.{named, written, settled_by}
use Rattle.simplify.specs.Simplify.{used_both, replaced_of, settled_change, write_of, Change}
use Rattle.sound.specs.Sound.{Valuation, Agrees, low}
use Rattle.alike.specs.Premises.{Short}
use Rattle.alike.proofs.Fits.{InRow}
use Rattle.alike.proofs.Havoc.{State, value_by, put_by}
use Rattle.alike.proofs.Parts.{Bytewise}
use Rattle.alike.proofs.Tables.{KnownStmt}
use Rattle.first_alike.proofs.Sure.{Holds}
use Rattle.first_alike.proofs.Valid.{InUse, Below, Valid}
use Rattle.first_alike.proofs.Uses.{Stage, stage_less, first_stage, first_valid, first_more, first_own, own_fit}
use Rattle.first_alike.proofs.Operands.{Stead, UsedIn, operand_holds, becomes_stead, used_stage, used_valid, used_more, used_own, used_on}
use Rattle.first_alike.proofs.Settled.{Worth, Fair, valued_valid, valued_worth}

-- what the laws ask of a statement's operands and output
pub record Sits (ids : List VarId) (st : Stmt) : Type 0 where
  pub known : KnownStmt ids st
  pub first_in : InRow st.first
  pub second_in : InRow st.second
  pub output_in : InRow (as_operand st.output)
  pub first_short : Short st.first
  pub second_short : Short st.second

-- what is known after an output was written, and what the statement comes to
pub record Wrote (ids : List VarId) (k : ℕ) (s : State) (o : VarNode) (x : ℕ) (r : Stmt) (c : Change) : Type 0 where
  pub valid : Valid ids c.state (put_by s (Out.Some o) x)
  pub worth : Worth ids s o x r c.simple
  pub inuse : InUse c.state.used (row_of ids o.id)

noted_used : (p : Place) (K : Known.State) → (noted p K).used ≡ K.used
noted_used p K = go (map_gives (part_of p K.store) K)
  where
    go : (f : Option Place) → (noted_by f p K).used ≡ K.used
    go Nothing = refl
    go (Some q) = refl

module _ (vars : Vars) (few : length (held_ids vars) ≤ 48) (st : Stmt) (sits : Sits (held_ids vars) st) where
  abbrev ids : List VarId
  ids = held_ids vars

  -- both operands' uses
  module _ (k : ℕ) (K : Known.State) (stage : Stage ids (k + 4) K) where
    abbrev K₁ : Known.State
    K₁ = used_by vars st.first K

    stage₁ : Stage ids (k + 3) K₁
    stage₁ = used_stage vars few st.first (k + 3) K sits.known.first sits.first_in (stage_less ids (k + 3 + 1) (k + 4) K (omega arith) stage)

    pub both_stage : Stage ids (k + 2) (used_both vars st K)
    both_stage = used_stage vars few st.second (k + 2) K₁ sits.known.second sits.second_in (stage_less ids (k + 2 + 1) (k + 3) K₁ (omega arith) stage₁)

    pub both_second : UsedIn ids (used_both vars st K).used st.second
    both_second = used_own vars few st.second K₁ sits.known.second sits.second_in stage₁.full

    pub both_first : UsedIn ids (used_both vars st K).used st.first
    both_first =
        used_on vars few st.first K₁.used (used_both vars st K).used (used_more vars few st.second K₁ sits.known.second sits.second_in stage₁.full)
        (used_own vars few st.first K sits.known.first sits.first_in stage.full)

    module _ (s : State) (bytes : Bytewise s) (v : Valid ids K s) where
      valid₁ : Valid ids K₁ s
      valid₁ = used_valid vars few st.first K s bytes sits.known.first sits.first_in (stage_less ids 1 (k + 4) K (omega arith) stage) v

      pub both_valid : Valid ids (used_both vars st K) s
      both_valid = used_valid vars few st.second K₁ s bytes sits.known.second sits.second_in (stage_less ids 1 (k + 3) K₁ (omega arith) stage₁) valid₁

      pub first_stead : Stead ids s st.first (replaced_of vars st K).first
      first_stead =
          becomes_stead vars few K₁ s bytes stage₁.able.good stage₁.live valid₁.values (valid₁.rows valid₁.values (λ i l o. refl)) st.first
          sits.known.first sits.first_in sits.first_short (used_own vars few st.first K sits.known.first sits.first_in stage.full)

      pub second_stead : Stead ids s st.second (replaced_of vars st K).second
      second_stead =
          becomes_stead vars few (used_both vars st K) s bytes both_stage.able.good both_stage.live both_valid.values (both_valid.rows both_valid.values (λ i l o. refl)) st.second
          sits.known.second sits.second_in sits.second_short both_second

      -- an output
      module _ (o : VarNode) (here : has_id ids o.id ≡ true) (fit : o.offset + o.size ≤ 16) (x : ℕ) where
        abbrev p : Place
        p = place_of vars o

        abbrev K₂ : Known.State
        K₂ = used_both vars st K

        abbrev K₃ : Known.State
        K₃ = first_use p K₂

        stage₃ : Stage ids (k + 1) K₃
        stage₃ = first_stage ids few p o.id here refl fit (k + 1) K₂ (stage_less ids (k + 1 + 1) (k + 2) K₂ (omega arith) both_stage)

        valid₃ : Valid ids K₃ s
        valid₃ = first_valid ids few p o.id here refl fit K₂ s bytes (stage_less ids 1 (k + 2) K₂ (omega arith) both_stage) both_valid

        abbrev xa : List ℕ
        xa = operand_bits vars st.first K₃.store

        abbrev xb : List ℕ
        xb = operand_bits vars st.second K₃.store

        first_holds : (τ : Valuation) → Below K₃.tally.next valid₃.values τ → Holds τ xa (low (8 * size_of st.first) (value_by s st.first))
        first_holds τ b =
            operand_holds vars few τ K₃.used K₃.store s bytes (valid₃.rows τ b) st.first sits.known.first sits.first_in
            (used_on vars few st.first K₂.used K₃.used (first_more ids few p o.id here refl fit K₂ both_stage.full) both_first)

        second_holds : (τ : Valuation) → Below K₃.tally.next valid₃.values τ → Holds τ xb (low (8 * size_of st.second) (value_by s st.second))
        second_holds τ b =
            operand_holds vars few τ K₃.used K₃.store s bytes (valid₃.rows τ b) st.second sits.known.second sits.second_in
            (used_on vars few st.second K₂.used K₃.used (first_more ids few p o.id here refl fit K₂ both_stage.full) both_second)

        inuse₃ : InUse K₃.used (row_of ids o.id)
        inuse₃ = first_own ids few p o.id here refl fit K₂ both_stage.full

        abbrev old : List ℕ
        old = part_of p K₃.store

        pub old_long : length old ≡ 8 * o.size
        old_long = part_length p K₃.store (good_within p K₃ stage₃.able.good (own_fit ids few p o.id here refl fit K₃ stage₃.full))

        abbrev change : Change
        change = write_of vars (operand_bits vars st.first) (operand_bits vars st.second) o (replaced_of vars st K) K₂

        abbrev cells : List ℕ
        cells = (outcome_of coded st.op xa xb old).cells

        abbrev fate : Result (Unit {0}) EvalError → Change
        fate r = settled_change (settled_by r cells p xa xb K₃) o (replaced_of vars st K)

        long : length cells ≡ 8 * o.size
        long = length_outcome coded st.op xa xb old ∙ old_long

        -- the evaluator's cells agree with x
        module _ (gives : (τ : Valuation) → Holds τ xa (low (8 * size_of st.first) (value_by s st.first)) → Holds τ xb (low (8 * size_of st.second) (value_by s st.second))
            → length old ≡ 8 * o.size → (outcome_of coded st.op xa xb old).answer ≡ Ok tt → Agrees τ (bits cells) (low (8 * o.size) x)) where
          agrees : (outcome_of coded st.op xa xb old).answer ≡ Ok tt → (τ : Valuation) → Below K₃.tally.next valid₃.values τ → Agrees τ (bits cells) (low (8 * o.size) x)
          agrees e τ b = gives τ (first_holds τ b) (second_holds τ b) old_long e

          by_answer : (r : Result (Unit {0}) EvalError) → (outcome_of coded st.op xa xb old).answer ≡ r → Fair (fate r).simple → Wrote ids k s o x (replaced_of vars st K) (fate r)
          by_answer (Ok z) e f =
              let one = stage_less ids 1 (k + 1) K₃ (omega arith) stage₃ in
              record {
                valid = valued_valid vars few K₃ s bytes one valid₃ o here fit inuse₃ cells x long (agrees e);
                worth =
                    valued_worth vars few K₃ s bytes one valid₃ o here fit inuse₃ cells x long (agrees e) st.first st.second xa xb (replaced_of vars st K) first_holds second_holds
                    first_stead second_stead (side_effects st.op);
                inuse = subst (λ (l : List ℕ). InUse l (row_of ids o.id)) (sym (noted_used p (written p (named K₃.tally.next cells) K₃))) inuse₃;
              }
          by_answer (Err z) e f = absurd f

          pub wrote : Fair change.simple → Wrote ids k s o x (replaced_of vars st K) change
          wrote f = by_answer (outcome_of coded st.op xa xb old).answer refl f

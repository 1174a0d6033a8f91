-- A block of the run class that passes the checks fits: what the laws ask of its statements.
use Rattle.std.proofs.Common.{ℕ, suc, ◌+◌, ◌≤◌, ◌<◌, arith, ◌≡◌, refl, Bool, true, false, not, true≢false, List, [], ◌∷◌, leb, ltb, length, get_or, take, leb-true, ltb-false, Ok}
use mathlib.Core.Bool.{false≢true}
use Rattle.pcode.specs.Var.{pick, zero_id, as_operand}
use Rattle.pcode.specs.Rules.{meets, output_need}
use Rattle.pcode.specs.Block.{held, blank_stmt, second_limits}
use Rattle.pcode.specs.declared.var.Operand.{Operand}
use Rattle.pcode.specs.declared.var.Operand.TheVariants.{None, Const, Var}
use Rattle.pcode.specs.Var.{Output}
use Rattle.std.specs.declared.option.Option.TheVariants as Out
use Rattle.pcode.specs.declared.op.Op.{Op}
use Rattle.pcode.specs.declared.block.Stmt.{Stmt}
use Rattle.pcode.specs.declared.block.Block.{Block}
use Rattle.checks.specs.Statements.{good_size, good_node, good_operand, there, good_parts, met_needs}
use Rattle.checks.specs.Checks.{check_of}
use Rattle.checks.proofs.Passing.{Good, passing}
use Rattle.machine.specs.Class.{in_class, backward, outside, first_outside}
use Rattle.machine.specs.declared.class.Class.{Class}
use Rattle.step.specs.Steps.{act_of}
use Rattle.alike.proofs.Fits.{InRow, Quiet, Fit, AllFit}

both : (x y : Bool) → pick x y false ≡ true → (x ≡ true) × (y ≡ true)
both true y e = (refl, e)
both false y e = absurd (false≢true e)

in_row : (a : Operand) → good_operand a ≡ true → InRow a
unfolding good_node
in_row None e = tt
in_row (Const v n) e = tt
in_row (Var v) e = by (zero_id v.id) (good_size v.size) e
  where
    by : (z g : Bool) → pick z false (pick g (leb (v.offset + v.size) 16) false) ≡ true → v.offset + v.size ≤ 16
    by true g e = absurd (false≢true e)
    by false true e = leb-true (v.offset + v.size) 16 e
    by false false e = absurd (false≢true e)

-- an output that may not be there is not
none : (o : Output) → not (there (as_operand o)) ≡ true → o ≡ Out.None
none Out.None e = refl
none (Out.Some v) e = absurd (false≢true e)

quiet : (c : Class) (op : Op) (o : Output) → in_class c op ≡ true → meets (output_need op) (there (as_operand o)) ≡ true → Quiet (act_of op) o
quiet c (Op.Trap t) o h e = absurd (false≢true h)
quiet c Op.InstructionMarker o h e = none o e
quiet c (Op.PcodeLabel l) o h e = none o e
quiet c (Op.PcodeBranch l) o h e = none o e
quiet c (Op.Branch n) o h e = none o e
quiet c (Op.Load n) o h e = tt
quiet c (Op.Store n) o h e = none o e
quiet c (Op.Call j n) o h e = absurd (false≢true h)
quiet c (Op.Select n) o h e = tt
quiet c (Op.Subpiece n) o h e = tt
quiet c (Op.Opaque j) o h e = tt
quiet c (Op.Float j) o h e = tt
quiet c (Op.One j) o h e = tt
quiet c (Op.Two j) o h e = tt
quiet c (Op.Divide j) o h e = tt
quiet c (Op.Shift j) o h e = tt
quiet c (Op.Rotate j) o h e = tt
quiet c (Op.Compare j) o h e = tt
quiet c (Op.Bool j) o h e = tt

pub fit_of : (c : Class) (s : Stmt) → Good s → in_class c s.op ≡ true → Fit s
unfolding good_parts met_needs
fit_of c s g h =
    let p = both (good_operand (as_operand s.output)) _ g.parts in
    let q = both (good_operand s.first) _ p.1 in
    record {
      first = in_row s.first q.0;
      second = in_row s.second q.1;
      output = in_row (as_operand s.output) p.0;
      quiet = quiet c s.op s.output h (both (meets (output_need s.op) (there (as_operand s.output))) _ g.needs).0;
    }

-- no statement is outside the class: each is in it
in_class_lem : (x b : Bool) → pick x b true ≡ false → x ≡ true
in_class_lem true b e = refl
in_class_lem false b e = absurd (true≢false e)

fits_from : (c : Class) (block : List Stmt) (i : ℕ) (ss : List Stmt) → i + length ss ≤ first_outside c block i ss
    → ((j : ℕ) → j < length ss → Good (get_or ss j blank_stmt)) → AllFit ss
unfolding first_outside
fits_from c block i [] h g = tt
fits_from c block i (s ∷ ss) h g =
    by (outside c (take i block) s.op) refl h (λ k. fits_from c block (i + 1) ss k (λ j m. g (suc j) (omega arith)))
  where
    by : (t : Bool) → outside c (take i block) s.op ≡ t → i + length (s ∷ ss) ≤ pick t i (first_outside c block (i + 1) ss)
        → (i + 1 + length ss ≤ first_outside c block (i + 1) ss → AllFit ss) → AllFit (s ∷ ss)
    by true e k rest = absurd (omega arith)
    by false e k rest =
        (fit_of c s (g 0 (omega arith)) (in_class_lem (in_class c s.op) (backward (take i block) s.op) e), rest (omega arith))

-- a block that passes the checks and that refusal 16 does not meet
pub all_fit : (c : Class) (b : Block) → check_of second_limits b ≡ Ok tt → ltb (first_outside c (held b) 0 (held b)) (length (held b)) ≡ false → AllFit (held b)
all_fit c b e h =
    let l = ltb-false (first_outside c (held b) 0 (held b)) (length (held b)) h in
    fits_from c (held b) 0 (held b) (omega arith) (passing second_limits b e).each

-- The worked file of specs/Worked goes through the theorem: its treated block runs alike, and what that run does is known without running it.
use Prim.Native.Nat.{ℕ, ◌<◌}
use native.Mathlib.Omega.{arith}
use mathlib.Core.Path.{◌≡◌, refl, sym, ap, ◌∙◌, subst}
use mathlib.Core.Bool.{Bool, true, false}
use mathlib.Core.List.{List, [], ◌∷◌}
use lib.Dec.{lit<}
use Rattle.pcode.specs.Var.{pick, same_id}
use Rattle.pcode.specs.Block.{held, has_id, lasting, no_marks}
use Rattle.pcode.specs.declared.block.Block.{Block}
use Rattle.vars.specs.Vars.{vars_of}
use Rattle.text.specs.Reading.{read_with}
use Rattle.print.specs.Printing.{printed}
use Rattle.dead_store.specs.Stays.{block_of}
use Rattle.run.specs.Run.{run_of}
use Rattle.alike.specs.Alike.{Alike}
use Rattle.alike.specs.Examples.{v1, v2}
use Rattle.alike.specs.Premises.{in_one_instruction, fresh_run}
use Rattle.optimizer.specs.Both.{both_of}
use Rattle.front.specs.Front.{answer_of}
use Rattle.front.specs.declared.Pass.TheVariants.{Both}
use Rattle.treated_alike.specs.Demand.{AcceptedFile, Holds, OfBytes}
use Rattle.treated_alike.specs.Seen.{calls_of, bytes_in}
use Rattle.treated_alike.specs.Worked as W
use Rattle.treated_alike.specs.Worked.{file, result, given, treated, start, five, rows, rows'}
use Rattle.treated_alike.proofs.Files.{treated_file_runs_alike, treated_file_text}
use Rattle.treated_alike.proofs.Holding.{rows_hold}
use Rattle.treated_alike.proofs.Observed.{same_calls, same_bytes}

-- the file meets the premises
pub accepts : AcceptedFile file (read_with (block_of given) no_marks) (block_of treated)
accepts = record { read = W.reads; accepted = W.treats; class = W.in_class_lem; inside = W.one_instruction }

-- the front door writes this text
pub writes : (answer_of Both file).text ≡ result
writes = treated_file_text file _ _ accepts ∙ W.prints

of_bytes : OfBytes start
of_bytes id k = go (same_id id v2)
  where
    go : (t : Bool) → pick t 9 7 < 256
    go true = lit< tt
    go false = lit< tt

holds : Holds (block_of given) start rows
holds = rows_hold start of_bytes (block_of given) (omega (arith, (W.three).0))

holds' : Holds (block_of treated) start rows'
holds' = rows_hold start of_bytes (block_of treated) (omega (arith, (W.three).1))

-- the theorem at this file and start, with any answers with which it reads fresh
pub runs_alike : (answers : List ℕ) → fresh_run no_marks answers given rows ≡ true
    → Alike no_marks start (vars_of given) (vars_of treated) (run_of answers given rows) (run_of answers treated rows')
runs_alike answers fresh = treated_file_runs_alike file answers _ _ accepts start rows rows' holds holds' fresh

-- with the branch taken, and not: what the treated block loads and stores, and the exit it takes
pub calls_five_lem : calls_of (run_of five treated rows') ≡ W.calls_five
calls_five_lem = sym (same_calls (runs_alike five (W.fresh).0)) ∙ (W.calls).0

pub calls_none_lem : calls_of (run_of [] treated rows') ≡ W.calls_none
calls_none_lem = sym (same_calls (runs_alike [] (W.fresh).1)) ∙ (W.calls).1

kept : (lasting no_marks v1 ≡ true) × (lasting no_marks v2 ≡ true)
unfolding has_id
kept = (refl, refl)

-- and the lowest bytes of v2 and v1 at its marker, its exit and its end, in the rows of its own table
pub v2_five : bytes_in (vars_of treated) start v2 0 (run_of five treated rows') ≡ 9 ∷ 9 ∷ 9 ∷ []
v2_five = sym (same_bytes (runs_alike five (W.fresh).0) v2 kept.1 0 (lit< tt)) ∙ (W.bytes).0

pub v2_none : bytes_in (vars_of treated) start v2 0 (run_of [] treated rows') ≡ 10 ∷ 10 ∷ 10 ∷ []
v2_none = sym (same_bytes (runs_alike [] (W.fresh).1) v2 kept.1 0 (lit< tt)) ∙ (W.bytes).1

pub v1_five : bytes_in (vars_of treated) start v1 0 (run_of five treated rows') ≡ 5 ∷ 5 ∷ 5 ∷ []
v1_five = sym (same_bytes (runs_alike five (W.fresh).0) v1 kept.0 0 (lit< tt)) ∙ (W.bytes).2

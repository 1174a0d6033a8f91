-- The treated block of a file runs alike, and its text is what the front door writes: the reader sees to the constants.
use Prim.Native.Nat.{ℕ}
use mathlib.Core.Path.{◌≡◌, refl}
use mathlib.Core.List.{List, [], ◌∷◌}
use Rattle.pcode.specs.Block.{held}
use Rattle.pcode.specs.declared.var.Operand.{Operand}
use Rattle.pcode.specs.declared.var.Operand.TheVariants.{None, Const, Var}
use Rattle.pcode.specs.declared.block.Stmt.{Stmt}
use Rattle.pcode.specs.declared.block.Block.{Block}
use Rattle.roundtrip.specs.Fits.{FitsOperand, FitsAll}
use Rattle.roundtrip.proofs.ReadPrint.{read_fits}
use Rattle.print.specs.Printing.{printed}
use Rattle.front.specs.Front.{end_of, answer_of}
use Rattle.front.specs.declared.Pass.TheVariants.{Both}
use Rattle.alike.specs.ById.{Start}
use Rattle.alike.specs.Premises.{Short, AllShort}
use Rattle.text.specs.declared.answer.Read.{Read}
use Rattle.treated_alike.specs.Demand.{AcceptedFile, Holds, RunsAlike, Fresh}
use Rattle.treated_alike.proofs.Treated.{treated_runs_alike}

fits_short : (a : Operand) → FitsOperand a → Short a
fits_short None h = tt
fits_short (Const k n) h = h
fits_short (Var v) h = tt

-- constants that fit their type are below 2^64
all_short : (ss : List Stmt) → FitsAll ss → AllShort ss
unfolding AllShort
all_short [] h = tt
all_short (s ∷ ss) h = ((fits_short s.first h.0.first, fits_short s.second h.0.second), all_short ss h.1)

-- demand 3 of a file: the block that both passes leave of it, same start, same answers, runs as the file's block does
pub treated_file_runs_alike : (bytes answers : List ℕ) (r : Read) (t : Block) → AcceptedFile bytes r t → (start : Start) (rows rows' : List (List ℕ)) → Holds r.block start rows
    → Holds t start rows' → Fresh r.marks answers r.block rows → RunsAlike r.marks answers start r.block t rows rows'
treated_file_runs_alike bytes answers r t a =
    treated_runs_alike r.marks answers r.block t
    record {
      accepted = a.accepted;
      class = a.class;
      inside = a.inside;
      constants = all_short (held r.block) (read_fits 64 bytes r a.read).0;
    }

-- that block's text is what the front door's promise names
pub treated_file_text : (bytes : List ℕ) (r : Read) (t : Block) → AcceptedFile bytes r t → (answer_of Both bytes).text ≡ printed (held t)
unfolding end_of
treated_file_text bytes r t a = rw (a.read, a.accepted) refl

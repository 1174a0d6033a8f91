-- How many bytes of a file decide its answer, and how much room the answer takes. Assumes nothing.
use Rattle.std.proofs.Common.{Option, Some, Result, Ok, Err}
use Prim.Native.Nat.{ℕ, ◌≤◌}
use native.Mathlib.Omega.{arith}
use mathlib.Core.Path.{◌≡◌, refl, ap}
use mathlib.Core.List.{List}
use lib.ListN.{length, take, length-take}
use Rattle.pcode.specs.declared.block.Block.{Block}
use Rattle.pcode.specs.declared.block.Marks.{Marks}
use Rattle.pcode.specs.declared.refusal.Refusal.{Refusal}
use Rattle.text.specs.Reading.{read_of}
use Rattle.text.specs.declared.answer.Read.{Read}
use Rattle.text.proofs.Beginning.{beginning}
use Rattle.print.specs.Rooms.{block_room}
use Rattle.print.specs.Texts.{written}
use Rattle.print.specs.Printing.{Print}
use Rattle.print.proofs.Unique.{print_written}
use Rattle.optimizer.proofs.Few.{first_few, second_few, both_few}
use Rattle.front.specs.Front.{limit_of, input_room, treat_of, with_block, end_by, end_of, told_by, answer_of}
use Rattle.front.specs.declared.Refused.{Refused}
use Rattle.front.specs.declared.Pass.{Pass}
use Rattle.front.specs.declared.Pass.TheVariants.{First, Second, Both}

-- what becomes of any bytes is what becomes of their beginning
pub beginning_ends : (p : Pass) (bytes : List ℕ) (n : ℕ) → input_room p ≤ n → end_of p (take n bytes) ≡ end_of p bytes
unfolding end_of
beginning_ends p bytes n h = ap (λ (r : Result Read Refusal). end_by r p) (beginning (limit_of p) bytes n h)

-- and so is the answer
pub beginning_decides : (p : Pass) (bytes : List ℕ) (n : ℕ) → input_room p ≤ n → answer_of p (take n bytes) ≡ answer_of p bytes
beginning_decides p bytes n h = ap (λ (t : Result Block Refused). told_by t) (beginning_ends p bytes n h)

-- 81 lines; 146 for the second pass alone
pub input_rooms : (input_room First ≡ 16281) × (input_room Second ≡ 29346) × (input_room Both ≡ 16281)
input_rooms = (refl, refl, refl)

-- a treated block has at most 129 statements
few : (p : Pass) (b : Block) (m : Marks) (t : Block) → treat_of p b m ≡ Ok t → t.count ≤ 129
few First b m t = first_few b m t
few Second b m t = second_few b m t
few Both b m t = both_few b m t

-- a block that comes with no refusal is the treated one
only_ok : (b : Block) (x : Result Block Refusal) (t : Block) → with_block b x ≡ Ok t → x ≡ Ok t
only_ok b (Ok u) t e = let z : u ≡ t = cc in ap Ok z
only_ok b (Err why) t e = cc

pub ended_few : (p : Pass) (bytes : List ℕ) (t : Block) → end_of p bytes ≡ Ok t → t.count ≤ 129
unfolding end_of
ended_few p bytes t = go (read_of (limit_of p) bytes)
  where
    go : (r : Result Read Refusal) → end_by r p ≡ Ok t → t.count ≤ 129
    go (Ok r) e = few p r.block r.marks t (only_ok r.block (treat_of p r.block r.marks) t e)
    go (Err why) e = let z : ◌≡◌ {A = ℕ} 0 1 = cc in omega arith

told_room : (a : Result Block Refused) → ((b : Block) → a ≡ Ok b → b.count ≤ 129) → (told_by a).room ≤ block_room
told_room (Ok b) h = omega (arith, h b refl, length-take b.count b.stmts)
told_room (Err r) h = omega arith

-- 129 records' room is enough for every answer
pub page_suffices : (p : Pass) (bytes : List ℕ) → (answer_of p bytes).room ≤ block_room
page_suffices p bytes = told_room (end_of p bytes) (ended_few p bytes)

-- with that room every file's answer is written
pub answer_written : (p : Pass) (bytes : List ℕ) {old new : List ℕ} {r : Option ℕ} → block_room ≤ length old → Print (answer_of p bytes).room (answer_of p bytes).text old new r
    → (r ≡ Some (length (answer_of p bytes).text)) × (new ≡ written old 0 (answer_of p bytes).text)
answer_written p bytes h q = let s = page_suffices p bytes in print_written (omega arith) q

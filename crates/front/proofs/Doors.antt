-- Every file of bytes gets an end. Assumes nothing.
use Rattle.std.proofs.Common.{ℕ, List, Result, Ok, Err}
use Rattle.pcode.specs.declared.block.Block.{Block}
use Rattle.pcode.specs.declared.refusal.Refusal.{Refusal}
use Rattle.front.specs.Front.{Told, end_of, told_block, told_refusal, told_by, answer_of}
use Rattle.front.specs.declared.Pass.{Pass}
use Rattle.front.specs.declared.Refused.{Refused}

-- an end of a file: a block's text, or one refusal's line
pub data End : Told → Type 0 where
  block : (b : Block) → End (told_block b)
  line : (why : Refusal) → End (told_refusal why)

told_end : (a : Result Block Refused) → End (told_by a)
told_end (Ok b) = block b
told_end (Err r) = line r.why

-- every file of bytes gets an end
pub ends : (p : Pass) (bytes : List ℕ) → End (answer_of p bytes)
ends p bytes = told_end (end_of p bytes)

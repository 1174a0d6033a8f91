-- How printing becomes a code, a detail and a buffer; only one answer meets the promise. Assumes nothing.
use Rattle.std.proofs.Common.{Result, Ok, Err}
use Prim.Native.Nat.{ℕ, ◌+◌, ◌*◌, ◌≤◌}
use native.Mathlib.Omega.{arith}
use mathlib.Core.Path.{◌≡◌, refl, sym, ◌∙◌}
use mathlib.Core.List.{List}
use lib.ListN.{length}
use borrow.Author.Tests.{ne_eqb, le-ltb}
use Rattle.pcode.specs.Block.{held}
use Rattle.pcode.specs.declared.block.Block.{Block}
use Rattle.print.specs.Rooms.{record_room, block_room}
use Rattle.front.specs.Front.{told_by, end_of}
use Rattle.front.specs.declared.Pass.{Pass}
use Rattle.front.specs.declared.Refused.{Refused}
use Rattle.front.proofs.Bounds.{page_suffices}
use Rattle.quargnil.specs.Answers.{code_of, code_with_room, Answers, repeated_of}

-- once more
pub again_is : (i n : ℕ) → repeated_of (i + 1) n ≡ n
again_is i n = simp (ne_eqb (i + 1) 0 (λ e. omega arith))

-- two outcomes that meet the promise are one
pub answers_unique : (a : Result Block Refused) (old new new' : List ℕ) (d d' r r' : ℕ) → Answers a old new d r → Answers a old new' d' r' → (new ≡ new') × (d ≡ d') × (r ≡ r')
answers_unique a old new new' d d' r r' x y = (x.memory ∙ sym y.memory, x.detail_is ∙ sym y.detail_is, x.code ∙ sym y.code)

with_room : (a : Result Block Refused) (n : ℕ) → (told_by a).room ≤ n → code_of a n ≡ code_with_room a
with_room (Ok b) n h = simp (le-ltb n (record_room * length (held b)) h)
with_room (Err r) n h = refl

-- with room for 129 records, no file is answered with 255
pub room_suffices : (p : Pass) (bytes : List ℕ) (n : ℕ) → block_room ≤ n → code_of (end_of p bytes) n ≡ code_with_room (end_of p bytes)
room_suffices p bytes n h = let e = page_suffices p bytes in with_room (end_of p bytes) n (omega arith)

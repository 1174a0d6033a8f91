-- Only one outcome meets the promise of a run: the rows at its end or why it stopped, and the trace. Assumes nothing.
use Rattle.std.proofs.Common.{◌≡◌, sym, ◌∙◌, ℕ, List, Result}
use Rattle.pcode.specs.declared.block.Block.{Block}
use Rattle.pcode.specs.declared.block.Marks.{Marks}
use Rattle.machine.specs.declared.class.Class.{Class}
use Rattle.run.specs.declared.outcome.Stop.{Stop}
use Rattle.run.specs.Promise.{Promise}

-- what a run may leave: the trace, and the rows or why there are none
pub record Left : Type 0 where
  pub trace : List ℕ
  pub answer : Result (List (List ℕ)) Stop

abbrev Leaves : Class → Block → Marks → List (List ℕ) → List ℕ → List ℕ → Left → Type 0
Leaves c b marks rows answers old x = Promise c b marks rows answers old x.trace x.answer

pub run_unique : {c : Class} {b : Block} {marks : Marks} {rows : List (List ℕ)} {answers old : List ℕ} (x y : Left)
    → Leaves c b marks rows answers old x → Leaves c b marks rows answers old y → x ≡ y
run_unique x y p q =
    let t = p.trace_after ∙ sym q.trace_after in
    let r = p.answer ∙ sym q.answer in
    rw (t, r)

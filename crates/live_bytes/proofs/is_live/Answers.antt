use Rattle.std.proofs.Common.{eqb-true, ◌∙◌, ap, sym, Bool}
use borrow.Author.Tests.{not-true, not-false, eqb-false}
use Rattle.live_bytes.specs.Bytes.{live_in}
use Rattle.live_bytes.proofs.Runs.{live_last, live_covered}
use Rattle.live_bytes.proofs.is_live.Goals as goal
use Rattle.live_bytes.proofs.is_live.Goals.{then-persists, else-persists}

pub returns-then-ne : goal.returns-then-ne
returns-then-ne c = let a = c.args in
    elim c.if-persists.branch [
      | then-persists w ↦
          let differ = eqb-false w.add.result.set a.last.set (not-true _ (sym w.ne.ensures ∙ sym w.value-is ∙ c.if-ne.true)) in
          c.if-ne.true ∙ sym (live_last a.last.set a.reads.set w.add.result.set a.var w.add.ensures differ) ∙ ap (λ (b : Bool). live_in b a.last.set a.reads.set a.var) (sym w.if-persists.true)
      | else-persists w ↦ absurd (let z = sym w.if-persists.false ∙ sym w.value-is ∙ c.if-ne.true in cc)
    ]

pub returns-else-ne : goal.returns-else-ne
returns-else-ne c = let a = c.args in
    elim c.if-persists.branch [
      | then-persists w ↦
          let same = eqb-true w.add.result.set a.last.set (not-false _ (sym w.ne.ensures ∙ sym w.value-is ∙ c.if-ne.false)) in
          c.any_set.ensures ∙ sym (live_covered a.last.set a.reads.set w.add.result.set a.var w.add.ensures same) ∙ ap (λ (b : Bool). live_in b a.last.set a.reads.set a.var) (sym w.if-persists.true)
      | else-persists w ↦ c.any_set.ensures ∙ ap (λ (b : Bool). live_in b a.last.set a.reads.set a.var) (sym w.if-persists.false)
    ]

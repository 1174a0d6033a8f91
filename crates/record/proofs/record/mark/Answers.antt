use Rattle.std.proofs.Common.{sym, ◌∙◌, ◌≡◌, rules, true, false, pos}
use Rattle.record.proofs.Known.{known}
use borrow.Author.Tests.{not-true, not-false}
use Rattle.pcode.specs.Var.{less_id}
use Rattle.pcode.specs.Names.{eq_bytes}
use Rattle.record.specs.Operands.{id_of}
use Rattle.record.specs.Records.{mark_of}
use Rattle.record.proofs.Names.{bytes_are}
use Rattle.record.proofs.record.mark.Goals as goal

pub returns-then-ne : goal.returns-then-ne
unfolding mark_of
returns-then-ne c =
    let e : eq_bytes c.part.result.now c.as_slice.result.now ≡ false = sym (bytes_are c.part.result.now c.as_slice.result.now) ∙ not-true _ (sym c.ne.ensures ∙ c.if-ne.true) in
    simp (sym c.part.ensures, sym c.as_slice.ensures, e)

pub returns-in_err-v : goal.returns-in_err-v
unfolding mark_of
returns-in_err-v c =
    let e : eq_bytes c.part.result.now c.as_slice.result.now ≡ true = sym (bytes_are c.part.result.now c.as_slice.result.now) ∙ not-false _ (sym c.ne.ensures ∙ c.if-ne.false) in
    rw c.from_residual.ensures (simp (sym c.part.ensures, sym c.as_slice.ensures, e, known id_of c.part-2.ensures c.id.ensures c.in_err-v.was))

pub returns-then-lt : goal.returns-then-lt
unfolding mark_of
returns-then-lt c =
    let e : eq_bytes c.part.result.now c.as_slice.result.now ≡ true = sym (bytes_are c.part.result.now c.as_slice.result.now) ∙ not-false _ (sym c.ne.ensures ∙ c.if-ne.false) in
    let f : less_id (record { 0 = pos 0 }) c.in_ok-v.v ≡ true = search rules in
    simp (f, sym c.part.ensures, sym c.as_slice.ensures, e, known id_of c.part-2.ensures c.id.ensures c.in_ok-v.was)

pub returns-else-lt : goal.returns-else-lt
unfolding mark_of
returns-else-lt c =
    let e : eq_bytes c.part.result.now c.as_slice.result.now ≡ true = sym (bytes_are c.part.result.now c.as_slice.result.now) ∙ not-false _ (sym c.ne.ensures ∙ c.if-ne.false) in
    let f : less_id (record { 0 = pos 0 }) c.in_ok-v.v ≡ false = search rules in
    simp (f, sym c.part.ensures, sym c.as_slice.ensures, e, known id_of c.part-2.ensures c.id.ensures c.in_ok-v.was)

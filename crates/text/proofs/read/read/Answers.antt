use Rattle.std.proofs.Common.{ℕ, Option, Result, arith, ap, sym, ◌∙◌}
use Rattle.pcode.specs.declared.refusal.Refusal.{Refusal}
use Rattle.std.proofs.lemmas.Result.{err_from_is_err_and}
use mathlib.Core.Path.{subst}
use Rattle.record.specs.Records.{record_of}
use Rattle.record.specs.declared.record.Record.{Record}
use Rattle.text.specs.declared.answer.Read.{Read}
use Rattle.text.specs.Reading.{read_after, accepted, read_lines, lines_of, read_of, empty_read}
use Rattle.text.proofs.Lines.{lines_end, lines_more, lines_stop}
use Rattle.text.proofs.Counts.{Counted, roomed, counted_none, counted_more}
use Rattle.text.proofs.read.read.Goals as goal

pub loop-text-init : goal.loop-text-init
loop-text-init c = record {
  same = rw (c.into_iter-text-iterator.ensures.into_iter_gives) (ap (λ (r : Read). read_lines c.room-most.result 1 r (lines_of c.args.bytes.now)) (sym c.new-so_far.ensures));
  counted = subst (Counted c.room-most.result 1) (sym c.new-so_far.ensures) (counted_none c.room-most.result);
  most = omega (arith, c.room-most.ensures, roomed c.args.limit);
}

pub returns-in_err-accept : goal.returns-in_err-accept
unfolding read_of
returns-in_err-accept c =
    let l = c.loop-text in
    let e = sym (c.accept.ensures.after ∙ ap (λ (x : Option Record). accepted c.room-most.result l.line l.so_far x) c.parse.ensures) ∙ ap (λ (a : Result (Unit {0}) Refusal). read_after a c.accept.new.self) c.in_err-accept.was in
    let p = err_from_is_err_and c.from_residual.result c.from_residual.ensures.1 in
    rw (p.1, p.2)
    (sym (ap (λ (n : ℕ). read_lines n 1 empty_read (lines_of c.args.bytes.now)) (sym c.room-most.ensures) ∙ l.invariant.same
    ∙ lines_stop c.room-most.result l.line l.so_far _ _ _ c.in-Some.ensures.steps _ e))

pub loop-text-preserved : goal.loop-text-preserved
loop-text-preserved c =
    let l = c.loop-text in
    let e = sym (c.accept.ensures.after ∙ ap (λ (x : Option Record). accepted c.room-most.result l.line l.so_far x) c.parse.ensures) ∙ ap (λ (a : Result (Unit {0}) Refusal). read_after a c.accept.new.self) c.in_ok-accept.was in
    record {
      same = l.invariant.same ∙ lines_more c.room-most.result l.line l.so_far _ _ _ c.in-Some.ensures.steps c.accept.new.self e;
      counted = counted_more c.room-most.result l.line l.so_far l.invariant.most l.invariant.counted c.accept.new.self (record_of c.in-Some.text.now) e;
      most = l.invariant.most;
    }

pub returns : goal.returns
unfolding read_of
returns c =
    let l = c.loop-text in
    sym (ap (λ (n : ℕ). read_lines n 1 empty_read (lines_of c.args.bytes.now)) (sym c.room-most.ensures) ∙ l.invariant.same
    ∙ lines_end c.room-most.result l.line l.so_far _ c.in-None.ensures.steps.0)

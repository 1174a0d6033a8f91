use Rattle.std.proofs.Common.{sym, ◌∙◌, rules, ◌≡◌, ne_eqb, lt-ltb, le-ltb}
use Rattle.fields.specs.Parts.{count_of}
use Rattle.record.specs.Records.{record_of}
use Rattle.record.proofs.record.parse.Goals as goal

pub returns-then-line-gt-LINE : goal.returns-then-line-gt-LINE
unfolding record_of
returns-then-line-gt-LINE c = simp (lt-ltb _ _ c.if-line-gt-LINE.true)

pub returns-in-1 : goal.returns-in-1
unfolding record_of
returns-in-1 c = simp (c.mark.ensures, le-ltb _ _ c.if-line-gt-LINE.false, sym c.count.ensures ∙ c.in-1.is)

pub returns-in-4 : goal.returns-in-4
unfolding record_of
returns-in-4 c = simp (c.statement.ensures, le-ltb _ _ c.if-line-gt-LINE.false, sym c.count.ensures ∙ c.in-4.is)

pub returns-in_default : goal.returns-in_default
unfolding record_of
returns-in_default c =
    let a : count_of 9 c.args.line.now ≡ 1 → ⊥ = search rules in
    let b : count_of 9 c.args.line.now ≡ 4 → ⊥ = search rules in
    simp (le-ltb _ _ c.if-line-gt-LINE.false, ne_eqb _ _ a, ne_eqb _ _ b)

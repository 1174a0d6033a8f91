use Rattle.std.proofs.Common.{◌≡◌, rules, sym, ◌∙◌, eqb, count_by}
use Rattle.fields.proofs.Parts.{count_is}
use Rattle.fields.proofs.part.count.Goals as goal

pub returns : goal.returns
returns c =
    let e : c.count.result ≡ count_by (λ x. eqb x c.args.b) c.args.s.now = search rules in
    e ∙ sym (count_is c.args.b c.args.s.now)

use Rattle.std.proofs.Common.{◌≡◌, ◌-◌, Some, sym, ◌∙◌, ap, arith, rules}
use Rattle.const_eval.specs.declared.place.Place.{Place}
use Rattle.const_eval.specs.Map.{place_at}
use Rattle.const_eval.proofs.Entries.{find_hit, short_head}
use Rattle.const_eval.proofs.map.find.Goals as goal

pub hit-requires : goal.hit-requires
hit-requires c =
    let a = c.args in
    let e : c.place_at-p.result.size ≡ (place_at a.map.now (c.loop-i.i - 1)).size = ap (λ (t : Place). t.size) c.place_at-p.ensures in
    (search rules, c.place_at-p.ensures, omega (arith, e, short_head a.key.now a.map.now c.loop-i.i c.loop-i-test.true c.loop-i.invariant.1))

pub returns-then-hit : goal.returns-then-hit
returns-then-hit c =
    let a = c.args in
    ap Some c.place_at-p.ensures
    ∙ sym (find_hit a.key.now a.map.now c.loop-i.i c.loop-i-test.true (sym c.hit.ensures ∙ c.if-hit.true))
    ∙ c.loop-i.invariant.0

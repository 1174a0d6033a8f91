use Rattle.std.proofs.Common.{◌≡◌, ℕ, ◌*◌, List, ◌∙◌, ap}
use Rattle.const_eval.specs.declared.place.Place.{Place}
use Rattle.const_eval.specs.Known.{same_codes}
use Rattle.const_eval.specs.Map.{place_at}
use Rattle.const_eval.proofs.Entries.{hit_key}
use Rattle.const_eval.proofs.map.hit.Goals as goal

pub returns : goal.returns
returns c =
    let a = c.args in
    let e : a.p.size ≡ (place_at a.map.now a.i).size = ap (λ (t : Place). t.size) c.requires.1 in
    c.eq.ensures ∙ ap (λ (t : List ℕ). same_codes t a.key.now) (hit_key _ _ _ (ap (λ (n : ℕ). 8 * n) e))

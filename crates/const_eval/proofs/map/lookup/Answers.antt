use Rattle.std.proofs.Common.{length, sym}
use Rattle.const_eval.specs.Map.{entries}
use Rattle.const_eval.proofs.Looks.{inside_short, inside_found}
use Rattle.const_eval.proofs.map.lookup.Goals as goal

pub find-requires : goal.find-requires
find-requires c =
    let a = c.args in
    (c.requires.0, inside_short (length a.store.now) (entries a.map.now a.n) c.requires.1)

pub holds-requires : goal.holds-requires
holds-requires c =
    let a = c.args in
    inside_found (length a.store.now) (entries a.map.now a.n) a.key.now c.in_ok-p.p c.requires.1 (sym c.in_ok-p.ensures)

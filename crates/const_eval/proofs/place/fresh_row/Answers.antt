use Rattle.std.proofs.Common.{ℕ, ◌*◌, List, ◌∙◌, ap}
use Rattle.const_eval.specs.Known.{splice, fresh_from, fresh_row}
use Rattle.const_eval.proofs.Parts.{put_splice, slice_length}
use Rattle.const_eval.proofs.place.fresh_row.Goals as goal

pub returns : goal.returns
unfolding fresh_row
returns c =
    let a = c.args in
    put_splice (128 * a.row) 128 a.store.now c.fresh.new.row c.requires c.fresh.auto.row
    ∙ ap (λ (t : List ℕ). splice (128 * a.row) t a.store.now) (c.fresh.ensures ∙ ap (λ (k : ℕ). fresh_from a.id 0 k) (slice_length (128 * a.row) 128 a.store.now c.requires))

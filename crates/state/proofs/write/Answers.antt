use Rattle.std.proofs.Common.{ℕ, ap, ◌∙◌, List, [], get_or, set}
use lib.Seq.{paste}
use Rattle.state.specs.Bytes.{write_of}
use Rattle.state.proofs.write.Goals as goal

pub returns : goal.returns
unfolding write_of
returns c = let x = c.args in
    ap (set x.state x.row) (c.splice.ensures ∙ ap (λ (l : List ℕ). paste (get_or x.state x.row []) x.offset l x.size) c.bytes.ensures)

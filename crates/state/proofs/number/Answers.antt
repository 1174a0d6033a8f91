use Rattle.std.proofs.Common.{arith, ◌+◌, ◌-◌, ◌≡◌, length, take, drop, length-take, length-drop, rules}
use Rattle.wide.specs.Value.{value_of}
use Rattle.state.proofs.Digits.{two_halves}
use Rattle.state.proofs.number.Goals as goal

pub returns : goal.returns
unfolding value_of
returns c =
    let x = c.args in
    let l : length x.row ≡ 16 = search rules in
    let q : x.offset + x.size - x.offset ≡ x.size = omega arith in
    let part = take x.size (drop x.offset x.row) in
    let long : length part ≡ x.size = omega (arith, length-take x.size (drop x.offset x.row), length-drop x.offset x.row) in
    two_halves part c.min-middle.result c.half.result c.half-2.result (omega arith) (rw q at c.half.ensures) (rw q at c.half-2.ensures)

use Rattle.std.proofs.Common.{rules, refl, sym, ◌∙◌, replicate}
use Rattle.wide.specs.Value.{value_of}
use Rattle.state.specs.Bytes.{bytes_of}
use Rattle.state.proofs.Digits.{two_parts, laid, bytes_length, written}
use Rattle.state.proofs.bytes.Goals as goal

pub returns : goal.returns
unfolding value_of
returns c =
    let v = c.args.v in
    let low = c.copy_from_slice.ensures.after ∙ c.to_le_bytes.ensures ∙ written v.lo in
    let high = c.copy_from_slice-2.ensures.after ∙ c.to_le_bytes-2.ensures ∙ written v.hi in
    rw (low, high) (laid (bytes_of 8 v.lo) (bytes_of 8 v.hi) (replicate 8 0) (bytes_length 8 v.lo) (bytes_length 8 v.hi) refl ∙ sym (two_parts 8 8 v.lo v.hi (search rules)))

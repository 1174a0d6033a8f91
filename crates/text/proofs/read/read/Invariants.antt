use Rattle.std.proofs.Common.{◌≡◌, ◌≤◌}
use Rattle.text.specs.Reading.{read_lines, lines_of, empty_read}
use Rattle.text.proofs.Counts.{Counted}
use Rattle.text.proofs.read.read.Given as goal

abbrev pub invariant-loop-text : goal.invariant-loop-text
invariant-loop-text l = record {
  same : read_lines l.most 1 empty_read (lines_of l.bytes) ≡ read_lines l.most l.line l.so_far (lines_of l.text-iterator.0.now);
  counted : Counted l.most l.line l.so_far;
  most : l.most ≤ 129;
}

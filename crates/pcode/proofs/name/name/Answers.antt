use Rattle.std.proofs.Common.{refl, sym, [], map}
use lib.ListN.{get_or-eq_default}
use Rattle.pcode.specs.Names.{name_of, names, bytes_of}
use Rattle.pcode.proofs.Names.{row_text}
use Rattle.pcode.proofs.name.name.Goals as goal

pub returns-then-code-lt72 : goal.returns-then-code-lt72
unfolding name_of
returns-then-code-lt72 c = rw row_text refl

pub returns-else-code-lt72 : goal.returns-else-code-lt72
unfolding name_of
returns-else-code-lt72 c = sym (get_or-eq_default (map bytes_of names) [] c.if-code-lt72.false)

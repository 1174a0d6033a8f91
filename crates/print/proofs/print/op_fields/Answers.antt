use Rattle.std.proofs.Common.{arith, ℕ, ap, [], ◌∷◌, ◌++◌}
use Rattle.pcode.specs.Names.{name_of, number_of}
use Rattle.print.specs.Texts.{number_text}
use Rattle.print.specs.Printing.{op_text}
use Rattle.print.proofs.Writes.{then, retold}
use Rattle.print.proofs.print.op_fields.Goals as goal

pub returns : goal.returns
unfolding op_text
returns c = retold (ap (λ (k : ℕ). name_of k ++ ((9 ∷ []) ++ (number_text (number_of c.args.op) ++ (9 ∷ [])))) c.code.ensures) (omega arith) (then {k = 21} {l = 7} (omega arith) c.name-a.ensures (then {k = 1} {l = 6} (omega arith) c.byte-b.ensures (then {k = 5} {l = 1} (omega arith) c.number-c.ensures c.byte.ensures)))

use Rattle.std.proofs.Common.{ℕ, ◌≡◌, pos, true, false, [], ◌∷◌, ◌++◌, ap, ◌∙◌, rules, arith, nat_abs}
use lib.Signed.{lt_z}
use Rattle.print.specs.Texts.{digits_text}
use Rattle.print.proofs.Writes.{then, retold}
use Rattle.print.proofs.Signs.{id_low, id_high}
use Rattle.print.proofs.put.id.Goals as goal

pub returns-then-lt : goal.returns-then-lt
returns-then-lt c =
    let m : c.unsigned_abs-m.result ≡ nat_abs c.args.v.0 = search rules in
    let t : lt_z c.args.v.0 (pos 0) ≡ true = search rules in
    retold (ap (λ (n : ℕ). (45 ∷ []) ++ digits_text 5 n) m ∙ id_low c.args.v.0 t) (omega arith) (then {k = 1} {l = 5} (omega arith) c.byte-p.ensures c.decimal.ensures)

pub returns : goal.returns
returns c =
    let m : c.unsigned_abs-m.result ≡ nat_abs c.args.v.0 = search rules in
    let t : lt_z c.args.v.0 (pos 0) ≡ false = search rules in
    retold (ap (digits_text 5) m ∙ id_high c.args.v.0 t) (omega arith) c.decimal-2.ensures

use Rattle.pcode.specs.Refusals.{refusal_number}
use Rattle.std.proofs.Common.{arith, ℕ, refl, ap, ◌∙◌, [], ◌∷◌, ◌++◌, lt-ltb}
use Rattle.pcode.specs.Names.{bytes_of}
use Rattle.print.specs.Texts.{digits_text}
use Rattle.print.specs.Printing.{refusal_text}
use Rattle.print.proofs.Writes.{then, retold}
use Rattle.print.proofs.Records.{printed_at}
use Rattle.print.proofs.print.refusal.Goals as goal

pub returns-then-out-lt-REFUSAL : goal.returns-then-out-lt-REFUSAL
returns-then-out-lt-REFUSAL c = record { answer = simp (lt-ltb _ _ c.if-out-lt-REFUSAL.true); memory = refl }

pub returns : goal.returns
unfolding refusal_text
returns c = printed_at 32 {k = 32} c.if-out-lt-REFUSAL.false (retold (ap (λ (k : ℕ). bytes_of "refused" ++ ((9 ∷ []) ++ (digits_text 2 k ++ ((9 ∷ []) ++ (digits_text 20 c.place.result ++ (10 ∷ [])))))) c.number.ensures ∙ ap (λ (k : ℕ). bytes_of "refused" ++ ((9 ∷ []) ++ (digits_text 2 (refusal_number c.args.why) ++ ((9 ∷ []) ++ (digits_text 20 k ++ (10 ∷ [])))))) c.place.ensures) (omega arith) (then {k = 7} {l = 25} (omega arith) c.copy-a.ensures (then {k = 1} {l = 24} (omega arith) c.byte-b.ensures (then {k = 2} {l = 22} (omega arith) c.decimal-c.ensures (then {k = 1} {l = 21} (omega arith) c.byte-d.ensures (then {k = 20} {l = 1} (omega arith) c.decimal-e.ensures c.byte.ensures))))))

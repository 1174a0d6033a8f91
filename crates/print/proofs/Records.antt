-- A block's text, one record more.
use Rattle.std.proofs.Common.{ℕ, ◌+◌, ◌<◌, ◌≤◌, add-one, ◌≡◌, refl, sym, ap, ◌∙◌, List, [], ◌∷◌, ◌++◌, append_assoc, append-nil, length, take, get_or, take-suc, arith, le-ltb, Some}
use Rattle.pcode.specs.Block.{blank_stmt}
use Rattle.pcode.specs.declared.block.Stmt.{Stmt}
use Rattle.print.specs.Texts.{Wrote}
use Rattle.print.specs.Printing.{record_text, printed, Print}

pub printed_none : (ss : List Stmt) → [] ≡ printed (take 0 ss)
unfolding printed
printed_none ss = refl

pub printed_snoc : (ss : List Stmt) (s : Stmt) → printed ss ++ record_text s ≡ printed (ss ++ (s ∷ []))
unfolding printed
printed_snoc [] s = sym (append-nil (record_text s))
printed_snoc (x ∷ ss) s = append_assoc (record_text x) (printed ss) (record_text s) ∙ ap (λ (l : List ℕ). record_text x ++ l) (printed_snoc ss s)

pub printed_more : (ss : List Stmt) (i : ℕ) → i < length ss → printed (take i ss) ++ record_text (get_or ss i blank_stmt) ≡ printed (take (i + 1) ss)
printed_more ss i h =
    printed_snoc (take i ss) (get_or ss i blank_stmt)
    ∙ ap printed (sym (take-suc ss i blank_stmt h) ∙ ap (λ (k : ℕ). take k ss) (sym (add-one i)))

-- a text written at the start of a buffer with room is what printing promises
pub printed_at : (room : ℕ) {k r : ℕ} {old text new : List ℕ} → room ≤ length old → Wrote k old 0 text new r → Print room text old new (Some r)
printed_at room {r = r} {old = old} {text = text} h w =
    let e : r ≡ length text = omega (arith, w.place) in
    record { answer = ap Some e ∙ simp (le-ltb (length old) room h); memory = w.bytes }

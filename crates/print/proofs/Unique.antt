-- Only one outcome meets the promise of a printing function; with room for the text it is the text. Assumes nothing.
use Rattle.std.proofs.Common.{ℕ, ◌≤◌, ◌≡◌, sym, ap, ◌∙◌, List, length, le-ltb, Option, Some}
use Rattle.print.specs.Texts.{written}
use Rattle.print.specs.Printing.{after_print, Print}

module _ {room : ℕ} {text old : List ℕ} where
  -- two answers, and two buffers after the call, are one
  pub print_unique : {new new' : List ℕ} {r r' : Option ℕ} → Print room text old new r → Print room text old new' r' → (r ≡ r') × (new ≡ new')
  print_unique p q =
      let e = p.answer ∙ sym q.answer in
      (e, p.memory ∙ ap (λ (z : Option ℕ). after_print z text old) e ∙ sym q.memory)

  -- a buffer with that room gets the text at its start
  pub print_written : {new : List ℕ} {r : Option ℕ} → room ≤ length old → Print room text old new r → (r ≡ Some (length text)) × (new ≡ written old 0 text)
  print_written h p =
      let e : _ ≡ Some (length text) = p.answer ∙ rw (le-ltb (length old) room h) in
      (e, p.memory ∙ ap (λ (z : Option ℕ). after_print z text old) e)

-- Words of numbers, of lasting variables and of events, one after the other.
use Rattle.std.proofs.Common.{ℕ, suc, ◌+◌, ◌*◌, ◌%◌, ◌^◌, ◌<◌, ◌≤◌, arith, add-one, add-zero, zero-add, ◌≡◌, refl, sym, ap, ◌∙◌, List, [], ◌∷◌, ◌++◌, append_assoc, append-nil, lit<, length, take, get_or, take-suc, length-take-le}
use Rattle.pcode.specs.Var.{pick}
use Rattle.pcode.specs.Block.{lasting}
use Rattle.pcode.specs.declared.var.VarId.{VarId}
use Rattle.pcode.specs.declared.block.Marks.{Marks}
use Rattle.wide.proofs.Halves.{low_digit, high_digit}
use Rattle.state.specs.Bytes.{num_of, read_of}
use Rattle.step.specs.Events.{Event, Loaded, Stored, Taken, Marked, Ended}
use Rattle.step.specs.Steps.{events_of}
use Rattle.step.specs.declared.Act.{Act}
use Rattle.print.specs.Texts.{Wrote}
use Rattle.print.proofs.Writes.{retold}
use Rattle.trace.specs.Words.{halves, lasting_words, access_words, state_words, words_of, trace_words}

pub halved : (lo hi : ℕ) → lo < 2 ^ 64 → (lo ∷ []) ++ (hi ∷ []) ≡ halves (lo + 2 ^ 64 * hi)
unfolding halves
halved lo hi h =
    ap (λ (x : ℕ). x ∷ hi ∷ []) (sym (low_digit (2 ^ 64) (lit< tt) lo hi h))
    ∙ ap (λ (x : ℕ). (lo + 2 ^ 64 * hi) % 2 ^ 64 ∷ x ∷ []) (sym (high_digit (2 ^ 64) (lit< tt) lo hi h))

module _ (marks : Marks) (rows : List (List ℕ)) where
  -- the words of the variable in row i
  abbrev own : ℕ → VarId → List ℕ
  own i id = pick (lasting marks id) (halves (read_of rows i 0 16)) []

  snoc : (i : ℕ) (l : List VarId) (id : VarId) → lasting_words marks rows i l ++ own (i + length l) id ≡ lasting_words marks rows i (l ++ (id ∷ []))
  unfolding lasting_words
  snoc i [] id = ap (λ (k : ℕ). own k id) (add-zero i) ∙ sym (append-nil (own i id))
  snoc i (x ∷ l) id =
      append_assoc (own i x) (lasting_words marks rows (suc i) l) (own (i + length (x ∷ l)) id)
      ∙ ap (λ (k : ℕ). own i x ++ (lasting_words marks rows (suc i) l ++ own k id)) (let e : i + suc (length l) ≡ suc i + length l = omega arith in e)
      ∙ ap (λ (t : List ℕ). own i x ++ t) (snoc (suc i) l id)

  pub lasting_none : (ids : List VarId) → [] ≡ lasting_words marks rows 0 (take 0 ids)
  unfolding lasting_words
  lasting_none ids = refl

  pub lasting_more : (ids : List VarId) (i : ℕ) (d : VarId) → i < length ids
      → lasting_words marks rows 0 (take i ids) ++ pick (lasting marks (get_or ids i d)) (halves (num_of (take 16 (get_or rows i [])))) [] ≡ lasting_words marks rows 0 (take (i + 1) ids)
  unfolding read_of
  lasting_more ids i d h =
      ap (λ (k : ℕ). lasting_words marks rows 0 (take i ids) ++ own k (get_or ids i d)) (sym (zero-add (length (take i ids)) ∙ length-take-le i ids (omega arith)))
      ∙ snoc 0 (take i ids) (get_or ids i d)
      ∙ ap (lasting_words marks rows 0) (sym (take-suc ids i d h) ∙ ap (λ (k : ℕ). take k ids) (sym (add-one i)))

module _ (marks : Marks) (ids : List VarId) where
  pub no_words : [] ≡ trace_words marks ids []
  unfolding trace_words
  no_words = refl

  alone : (e : Event) → words_of marks ids e ≡ trace_words marks ids (e ∷ [])
  unfolding trace_words
  alone e = sym (append-nil (words_of marks ids e))

  module _ (n a b : ℕ) where
    pub load_words : access_words 1 n a b ≡ trace_words marks ids (Loaded n a b ∷ [])
    unfolding words_of
    load_words = alone (Loaded n a b)

    pub store_words : access_words 2 n a b ≡ trace_words marks ids (Stored n a b ∷ [])
    unfolding words_of
    store_words = alone (Stored n a b)

    pub exit_words : (rows : List (List ℕ)) → access_words 3 n a b ++ lasting_words marks rows 0 ids ≡ trace_words marks ids (Taken n a b rows ∷ [])
    unfolding words_of
    exit_words rows = alone (Taken n a b rows)

  pub marker_words : (rows : List (List ℕ)) → state_words 4 marks ids rows ≡ trace_words marks ids (Marked rows ∷ [])
  unfolding words_of
  marker_words rows = alone (Marked rows)

  pub end_words : (rows : List (List ℕ)) → state_words 5 marks ids rows ≡ trace_words marks ids (Ended rows ∷ [])
  unfolding words_of
  end_words rows = alone (Ended rows)

  pub words_append : (xs ys : List Event) → trace_words marks ids (xs ++ ys) ≡ trace_words marks ids xs ++ trace_words marks ids ys
  unfolding trace_words
  words_append [] ys = refl
  words_append (e ∷ xs) ys =
      ap (λ (t : List ℕ). words_of marks ids e ++ t) (words_append xs ys)
      ∙ sym (append_assoc (words_of marks ids e) (trace_words marks ids xs) (trace_words marks ids ys))

-- the words of an act's event, where the act is known
module _ (marks : Marks) (ids : List VarId) (rows : List (List ℕ)) (a b : ℕ) {act known : Act} (e : act ≡ known) {k at r : ℕ} {old new words : List ℕ} where
  pub event_words : words ≡ trace_words marks ids (events_of rows known a b) → k ≤ 230 → Wrote k old at words new r → Wrote 230 old at (trace_words marks ids (events_of rows act a b)) new r
  event_words q h w = retold (q ∙ sym (ap (λ (x : Act). trace_words marks ids (events_of rows x a b)) e)) h w

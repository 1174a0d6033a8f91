-- A file's lines, put together again, are the file; lines put together are taken apart again.
use Rattle.std.proofs.Common.{ℕ, ◌≡◌, refl, sym, ap, ◌∙◌, Bool, true, false, List, [], ◌∷◌, ◌++◌, map, append_assoc, eqb-true, eqb}
use Rattle.pcode.specs.Var.{pick}
use Rattle.pcode.specs.declared.var.VarId.{VarId}
use Rattle.pcode.specs.declared.block.Stmt.{Stmt}
use Rattle.text.specs.Reading.{newline, in_front, lines_of}
use Rattle.print.specs.Printing.{printed}
use Rattle.roundtrip.specs.Files.{ended, mark_text, marks_text}
use Rattle.roundtrip.proofs.Parts.{Without, without_head, without_rest}
use Rattle.roundtrip.proofs.Records.{line_of, record_line, line_newline}
use Rattle.roundtrip.proofs.Marks.{mark_line, mark_text_lem, mark_newline}

-- lines put together, an LF after each
abbrev pub unlines : List (List ℕ) → List ℕ
unlines [] = []
unlines (l ∷ ls) = l ++ newline ∷ unlines ls

-- a line's end
pub lines_more : (l s : List ℕ) → Without 10 l → lines_of (l ++ 10 ∷ s) ≡ l ∷ lines_of s
unfolding lines_of
lines_more [] s h = refl
lines_more (b ∷ l) s h = rw (without_head 10 b l h) (ap (in_front b) (lines_more l s (without_rest 10 b l h)))

-- a printed block's lines
pub lines_printed : (ss : List Stmt) → lines_of (printed ss) ≡ map line_of ss
unfolding lines_of printed
lines_printed [] = refl
lines_printed (s ∷ ss) =
    ap lines_of (ap (λ (l : List ℕ). l ++ printed ss) (record_line s) ∙ append_assoc (line_of s) (10 ∷ []) (printed ss))
    ∙ lines_more (line_of s) (printed ss) (line_newline s) ∙ ap (λ (ls : List (List ℕ)). line_of s ∷ ls) (lines_printed ss)

-- the lines of marks
pub lines_marked : (vs : List VarId) (s : List ℕ) → lines_of (marks_text vs ++ s) ≡ map mark_line vs ++ lines_of s
unfolding marks_text
lines_marked [] s = refl
lines_marked (v ∷ vs) s =
    ap lines_of
    (append_assoc (mark_text v) (marks_text vs) s ∙ ap (λ (l : List ℕ). l ++ (marks_text vs ++ s)) (mark_text_lem v)
    ∙ append_assoc (mark_line v) (10 ∷ []) (marks_text vs ++ s))
    ∙ lines_more (mark_line v) (marks_text vs ++ s) (mark_newline v) ∙ ap (λ (ls : List (List ℕ)). mark_line v ∷ ls) (lines_marked vs s)

-- a byte in front of a file that has a line
front : (b : ℕ) (ls : List (List ℕ)) → (ls ≡ [] → ⊥) → unlines (in_front b ls) ≡ b ∷ unlines ls
front b [] h = absurd (h refl)
front b (l ∷ ls) h = refl

some_line : (b : ℕ) (s : List ℕ) → lines_of (b ∷ s) ≡ [] → ⊥
unfolding lines_of
some_line b s = go (eqb b newline) (lines_of s)
  where
    clash : (l : List ℕ) (ls : List (List ℕ)) → l ∷ ls ≡ [] → ⊥
    clash l ls e = cc

    go : (t : Bool) (ls : List (List ℕ)) → pick t ([] ∷ ls) (in_front b ls) ≡ [] → ⊥
    go true ls e = clash [] ls e
    go false [] e = clash (b ∷ []) [] e
    go false (l ∷ ls) e = clash (b ∷ l) ls e

-- a file's lines, put together again, are the file with an LF at its end
pub unlines_lines : (s : List ℕ) → unlines (lines_of s) ≡ ended s
unfolding lines_of ended
unlines_lines [] = refl
unlines_lines (b ∷ []) = go (eqb b newline) refl
  where
    go : (t : Bool) → eqb b newline ≡ t → unlines (pick t ([] ∷ []) ((b ∷ []) ∷ [])) ≡ pick t (b ∷ []) (b ∷ newline ∷ [])
    go true e = ap (λ (x : ℕ). x ∷ []) (sym (eqb-true b newline e))
    go false e = refl
unlines_lines (b ∷ c ∷ s) = go (eqb b newline) refl (unlines_lines (c ∷ s))
  where
    go : (t : Bool) → eqb b newline ≡ t → unlines (lines_of (c ∷ s)) ≡ ended (c ∷ s) →
        unlines (pick t ([] ∷ lines_of (c ∷ s)) (in_front b (lines_of (c ∷ s)))) ≡ b ∷ ended (c ∷ s)
    go true e h = ap (λ (x : ℕ). x ∷ unlines (lines_of (c ∷ s))) (sym (eqb-true b newline e)) ∙ ap (λ (l : List ℕ). b ∷ l) h
    go false e h = front b (lines_of (c ∷ s)) (some_line c s) ∙ ap (λ (l : List ℕ). b ∷ l) h

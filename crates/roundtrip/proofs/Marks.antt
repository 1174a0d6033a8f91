-- A mark's line is read as the mark.
use Rattle.std.proofs.Common.{Some, ℕ, suc, ◌≤◌, arith, ◌≡◌, refl, ap, ◌∙◌, true, inl, List, [], ◌∷◌, ◌++◌, le-ltb, lt-ltb, ℤ, pos, negsuc, length}
use lib.Signed.{lt_z}
use Rattle.pcode.specs.Names.{bytes_of, eq_bytes}
use Rattle.pcode.specs.declared.var.VarId.{VarId}
use Rattle.fields.specs.Parts.{part_of, count_of}
use Rattle.record.specs.Operands.{id_of}
use Rattle.record.specs.Records.{mark_of, record_of}
use Rattle.record.specs.declared.record.Record.TheVariants.{Mark}
use Rattle.print.specs.Texts.{id_text}
use Rattle.roundtrip.specs.Fits.{FitsId, FitsMark}
use Rattle.roundtrip.specs.Files.{mark_text}
use Rattle.roundtrip.proofs.Parts.{Without, count_at, part_first, part_next, part_last}
use Rattle.roundtrip.proofs.Operands.{id_read, id_apart, id_length}

-- a mark's line, without its LF
unfoldable pub mark_line : VarId → List ℕ
mark_line v = bytes_of "temporary" ++ 9 ∷ id_text v.0

-- its text is the line and an LF
pub mark_text_lem : (v : VarId) → mark_text v ≡ mark_line v ++ 10 ∷ []
unfolding mark_text mark_line
mark_text_lem v = refl

pub mark_newline : (v : VarId) → Without 10 (mark_line v)
unfolding mark_line count_of
mark_newline v = id_apart 10 v.0 (inl (omega arith))

mark_good : (line : List ℕ) (v : VarId) → eq_bytes (part_of 9 line 0) (bytes_of "temporary") ≡ true → id_of (part_of 9 line 1) ≡ Some v → lt_z (pos 0) v.0 ≡ true → mark_of line ≡ Some (Mark v)
unfolding mark_of
mark_good line v a b c = rw (a, b, c)

record_good : (line : List ℕ) → length line ≤ 200 → count_of 9 line ≡ 1 → record_of line ≡ mark_of line
unfolding record_of
record_good line h e = rw (le-ltb 200 (length line) h, e)

above : (z : ℤ) → FitsMark z → FitsId z × (lt_z (pos 0) z ≡ true)
above (pos n) f = (f.1, lt-ltb 0 n f.0)
above (negsuc n) f = absurd f

-- a mark's line is read as the mark
pub mark_read : (v : VarId) → FitsMark v.0 → record_of (mark_line v) ≡ Some (Mark v)
unfolding mark_line count_of
mark_read v f =
    let t = bytes_of "temporary" in
    let s = id_text v.0 in
    let h : Without 9 t = refl in
    let k : Without 9 s = id_apart 9 v.0 (inl (omega arith)) in
    let a = above v.0 f in
    record_good (t ++ 9 ∷ s) (omega (arith, id_length v.0)) (count_at 9 s t h ∙ ap suc k)
    ∙ mark_good (t ++ 9 ∷ s) v (ap (λ (l : List ℕ). eq_bytes l t) (part_first 9 t h s)) (ap id_of (part_next 9 t h s 0 ∙ part_last 9 s k) ∙ id_read v.0 a.0) a.1

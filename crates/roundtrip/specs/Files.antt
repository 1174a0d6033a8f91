-- A file's last LF, and the text of marks.
use Rattle.std.specs.Prelude.{ℕ, List, [], ◌∷◌, ◌++◌, eqb}
use Rattle.pcode.specs.Var.{pick}
use Rattle.pcode.specs.Names.{bytes_of}
use Rattle.pcode.specs.declared.var.VarId.{VarId}
use Rattle.record.specs.Records.{tab}
use Rattle.text.specs.Reading.{newline}
use Rattle.print.specs.Texts.{id_text}

-- a file with an LF at its end; an empty one stays
unfoldable pub ended : List ℕ → List ℕ
ended [] = []
ended (b ∷ []) = pick (eqb b newline) (b ∷ []) (b ∷ newline ∷ [])
ended (b ∷ c ∷ s) = b ∷ ended (c ∷ s)

-- `temporary`, tab, id
unfoldable pub mark_text : VarId → List ℕ
mark_text v = bytes_of "temporary" ++ (tab ∷ (id_text v.0 ++ (newline ∷ [])))

-- one mark a line
unfoldable pub marks_text : List VarId → List ℕ
marks_text [] = []
marks_text (v ∷ vs) = mark_text v ++ marks_text vs

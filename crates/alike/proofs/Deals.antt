-- What an operation does in a run, where it stands in a stretch, and whether it has side effects, side by side.
use Rattle.std.proofs.Common.{ℕ, ◌≡◌, refl, sym, ap, ◌∙◌, Bool, true, false, true≢false}
use mathlib.Core.Bool.{false≢true}
use Rattle.pcode.specs.Rules.{side_effects}
use Rattle.pcode.specs.declared.var.PcodeLabel.{PcodeLabel}
use Rattle.pcode.specs.declared.op.CallOp.{CallOp}
use Rattle.pcode.specs.declared.op.CallOp.TheVariants.{Arg, PcodeOp, Hook, HookIf, TracerLoad, TracerStore}
use Rattle.pcode.specs.declared.op.Op.{Op}
use Rattle.vars.proofs.Rows.{ways}
use Rattle.checks.specs.Labels.{is_label}
use Rattle.live_tables.specs.declared.rows.Edge.{Edge}
use Rattle.live_tables.specs.declared.rows.Edge.TheVariants.{Inside, Branch, Label, Marker}
use Rattle.live_tables.specs.Rows.{edge_of, ends}
use Rattle.step.specs.Steps.{act_of}
use Rattle.step.specs.declared.Act.{Act}

pub data Deals : Act → Edge → Bool → Type 0 where
  marks : Deals Act.Marks Marker true
  jumps : {l : PcodeLabel} → Deals (Act.Jumps l) Branch true
  exits : {n : ℕ} → Deals (Act.Exits n) Branch true
  label : Deals Act.Nothing Label true
  silent : Deals Act.Nothing Inside true
  loads : {n : ℕ} → Deals (Act.Loads n) Inside true
  stores : {n : ℕ} → Deals (Act.Stores n) Inside true
  computes : Deals Act.Computes Inside false

call : (k : CallOp) (n : ℕ) → Deals Act.Nothing Inside (side_effects (Op.Call k n))
call Arg n = silent
call PcodeOp n = silent
call Hook n = silent
call HookIf n = silent
call TracerLoad n = silent
call TracerStore n = silent

pub deals : (op : Op) → Deals (act_of op) (edge_of op) (side_effects op)
deals (Op.Trap t) = silent
deals Op.InstructionMarker = marks
deals (Op.PcodeLabel l) = label
deals (Op.PcodeBranch l) = jumps
deals (Op.Branch n) = exits
deals (Op.Load n) = loads
deals (Op.Store n) = stores
deals (Op.Call k n) = call k n
deals (Op.Select n) = computes
deals (Op.Subpiece n) = computes
deals (Op.Opaque k) = computes
deals (Op.Float k) = computes
deals (Op.One k) = computes
deals (Op.Two k) = computes
deals (Op.Divide k) = computes
deals (Op.Shift k) = computes
deals (Op.Rotate k) = computes
deals (Op.Compare k) = computes
deals (Op.Bool k) = computes

-- only operations without side effects compute alone
pub computing : {act : Act} {edge : Edge} {effects : Bool} → Deals act edge effects → effects ≡ false → act ≡ Act.Computes
computing marks e = absurd (true≢false e)
computing jumps e = absurd (true≢false e)
computing exits e = absurd (true≢false e)
computing label e = absurd (true≢false e)
computing silent e = absurd (true≢false e)
computing loads e = absurd (true≢false e)
computing stores e = absurd (true≢false e)
computing computes e = refl

pub inner : {act : Act} {edge : Edge} {effects : Bool} → Deals act edge effects → effects ≡ false → edge ≡ Inside
inner marks e = absurd (true≢false e)
inner jumps e = absurd (true≢false e)
inner exits e = absurd (true≢false e)
inner label e = absurd (true≢false e)
inner silent e = absurd (true≢false e)
inner loads e = absurd (true≢false e)
inner stores e = absurd (true≢false e)
inner computes e = refl

-- a label stands at a label's edge
pub label_edge : (op : Op) (l : PcodeLabel) → is_label op l ≡ true → edge_of op ≡ Label
label_edge (Op.Trap t) l e = absurd (false≢true e)
label_edge Op.InstructionMarker l e = absurd (false≢true e)
label_edge (Op.PcodeLabel m) l e = refl
label_edge (Op.PcodeBranch m) l e = absurd (false≢true e)
label_edge (Op.Branch n) l e = absurd (false≢true e)
label_edge (Op.Load n) l e = absurd (false≢true e)
label_edge (Op.Store n) l e = absurd (false≢true e)
label_edge (Op.Call k n) l e = absurd (false≢true e)
label_edge (Op.Select n) l e = absurd (false≢true e)
label_edge (Op.Subpiece n) l e = absurd (false≢true e)
label_edge (Op.Opaque k) l e = absurd (false≢true e)
label_edge (Op.Float k) l e = absurd (false≢true e)
label_edge (Op.One k) l e = absurd (false≢true e)
label_edge (Op.Two k) l e = absurd (false≢true e)
label_edge (Op.Divide k) l e = absurd (false≢true e)
label_edge (Op.Shift k) l e = absurd (false≢true e)
label_edge (Op.Rotate k) l e = absurd (false≢true e)
label_edge (Op.Compare k) l e = absurd (false≢true e)
label_edge (Op.Bool k) l e = absurd (false≢true e)

-- what has no side effects is no label
pub not_label : (op : Op) (l : PcodeLabel) → side_effects op ≡ false → is_label op l ≡ false
not_label op l e = ways (is_label op l) (λ t. absurd (true≢false (ap ends (sym (label_edge op l t) ∙ inner (deals op) e)))) (λ t. t)

-- How a statement's parts join. Assumes nothing.
use Rattle.std.proofs.Common.{ℕ, ◌≤◌, ◌≡◌, sym, ◌∙◌, ap, subst, List, arith, length, ◌⊎◌, inl, inr}
use Rattle.pcode.specs.declared.var.VarNode.{VarNode}
use Rattle.pcode.specs.declared.var.Operand.{Operand}
use Rattle.pcode.specs.declared.block.Stmt.{Stmt}
use Rattle.vars.specs.declared.Vars.{Vars}
use Rattle.eval.specs.Operand.{bits_of}
use Rattle.eval.specs.declared.operand.Slot.{Slot}
use Rattle.const_eval.specs.declared.place.Place.{Place}
use Rattle.const_eval.specs.Known.{Fit}
use Rattle.const_eval.specs.State.{State, first_use, Room, Able}
use Rattle.const_eval.proofs.Keeps.{Kept, first_kept, able_room, kept_fit}
use Rattle.simplify.proofs.Grows.{able_le, able_grown, kept_grown}
use Rattle.uses.specs.Operands.{place_of, operand_bits, slot_of, const_row}
use Rattle.uses.proofs.Replaced.{stands}
use Rattle.widen.specs.declared.turn.Turn.{Turn}
use Rattle.widen.specs.declared.turn.Turn.TheVariants.{Plain, Marker, Label}
use Rattle.pcode.specs.declared.var.PcodeLabel.{PcodeLabel}
use Rattle.simplify.specs.Simplify.{Change, plain_of, turned, simplify_of, replaced_of, Prepares}
use Rattle.simplify.specs.declared.Prepared.{Prepared}

-- a plain operation, a marker and a label are evaluated alike
pub plain_turned : (vars : Vars) (xa xb : List ℕ → List ℕ) (t : Turn) (st : Stmt) (s : State) → (t ≡ Plain) ⊎ ((t ≡ Marker) ⊎ ((l : PcodeLabel) × (t ≡ Label l)))
    → plain_of vars xa xb st.output st s ≡ turned vars xa xb t st s
plain_turned vars xa xb t st s (inl e) = ap (λ (z : Turn). turned vars xa xb z st s) (sym e)
plain_turned vars xa xb t st s (inr (inl e)) = ap (λ (z : Turn). turned vars xa xb z st s) (sym e)
plain_turned vars xa xb t st s (inr (inr w)) = ap (λ (z : Turn). turned vars xa xb z st s) (sym w.1)

-- the operands' bits are where their uses put them
pub simplify_close : (vars : Vars) (t : Turn) (st : Stmt) (s u : State) (ca cb na nb : List ℕ) (p : Prepared) (c : Change) → Prepares vars st s ca cb p u na nb
    → c ≡ turned vars (λ (z : List ℕ). bits_of z na p.first) (λ (z : List ℕ). bits_of z nb p.second) t p.stmt u → c ≡ simplify_of vars t st s
simplify_close vars t st s u ca cb na nb p c h e =
    e
    ∙ ap (λ (f : List ℕ → List ℕ). turned vars f (λ (z : List ℕ). bits_of z nb p.second) t p.stmt u) (place_bits st.first ca na p.first h.first h.first_row)
    ∙ ap (λ (f : List ℕ → List ℕ). turned vars (operand_bits vars st.first) f t p.stmt u) (place_bits st.second cb nb p.second h.second h.second_row)
    ∙ ap (λ (z : Stmt). turned vars (operand_bits vars st.first) (operand_bits vars st.second) t z u) h.stmt
    ∙ ap (λ (z : State). turned vars (operand_bits vars st.first) (operand_bits vars st.second) t (replaced_of vars st s) z) h.state
  where
    place_bits : (a : Operand) (row new : List ℕ) (slot : Slot) → slot ≡ slot_of vars a → new ≡ const_row a row
        → (λ (z : List ℕ). bits_of z new slot) ≡ operand_bits vars a
    place_bits a row new slot es en =
        ap {B = List ℕ → List ℕ} (λ (k : Slot) (z : List ℕ). bits_of z new k) es
        ∙ ap {B = List ℕ → List ℕ} (λ (m : List ℕ) (z : List ℕ). bits_of z m (slot_of vars a)) en
        ∙ stands vars a row

-- an output's use: room for it, what holds after it, and its size
pub write_room : (vars : Vars) (o : VarNode) (p : Place) (s : State) → Able 2 s → Fit (length s.used) (place_of vars o) → p ≡ place_of vars o → Room p s
write_room vars o p s a f hp = subst (λ (z : Place). Room z s) (sym hp) (able_room (place_of vars o) s (able_le 1 2 s (omega arith) a) f)

pub write_ready : (vars : Vars) (o : VarNode) (p : Place) (s t : State) → Able 2 s → Fit (length s.used) (place_of vars o) → p ≡ place_of vars o → t ≡ first_use p s
    → Able 1 t × Fit (length t.used) p
write_ready vars o p s t a f hp ht =
    let f' = subst (λ (z : Place). Fit (length s.used) z) (sym hp) f in
    let k = subst (λ (z : State). Kept s z) (sym ht) (first_kept p s (write_room vars o p s a f hp)) in
    (able_grown 1 1 s t a (kept_grown s t k), kept_fit p s t k f')

pub write_size : (vars : Vars) (o : VarNode) (p : Place) (rows : ℕ) → Fit rows (place_of vars o) → p ≡ place_of vars o → p.size ≤ 16
write_size vars o p rows f hp = let h : p.size ≡ o.size = ap (λ (z : Place). z.size) hp in omega (arith, h, f.inside)

-- What is read as an id, an operand or an output is its text, and fits.
use Rattle.std.specs.declared.option.Option.TheVariants as Out
use Rattle.std.proofs.Common.{Option, None, Some, ℕ, suc, ◌+◌, ◌-◌, ◌^◌, ◌<◌, ◌≤◌, arith, ◌≡◌, refl, ap, subst, ◌∙◌, Bool, true, false, List, [], ◌∷◌, eqb-true, eqb, pos, negsuc, length}
use borrow.Author.Tests.{eqb-false}
use Rattle.pcode.specs.Var.{pick, as_operand}
use Rattle.pcode.specs.declared.var.VarId.{VarId}
use Rattle.pcode.specs.declared.var.VarNode.{VarNode}
use Rattle.pcode.specs.declared.var.Operand.{Operand}
use Rattle.pcode.specs.Var.{Output}
use Rattle.fields.specs.Parts.{part_of, count_of}
use Rattle.fields.specs.Decimals.{decimal_of, on_value}
use Rattle.fields.proofs.Decimals.{bounded}
use Rattle.record.specs.Operands.{id_of, var_of, const_of, operand_of, output_of, as_var, as_output}
use Rattle.print.specs.Texts.{digits_text, id_text, const_text, var_text, operand_text}
use Rattle.roundtrip.specs.Fits.{FitsId, FitsOperand}
use Rattle.roundtrip.proofs.Parts.{parted, parts_joined}
use Rattle.roundtrip.proofs.Digits.{enough, decimal_back}
use Rattle.roundtrip.proofs.Operands.{not_none}
use Rattle.roundtrip.proofs.Inverse.{passed, not_bad, on_value_lem, bad_good}

-- decimals in the rooms that the text form gives them
pub five_back : (limit : ℕ) (s : List ℕ) (v : ℕ) → limit < 100000 → decimal_of limit s ≡ Some v → s ≡ digits_text 5 v
five_back limit s v h e = decimal_back limit 4 s v (enough 4 v (omega (arith, bounded limit s v e))) e

three_back : (s : List ℕ) (v : ℕ) → decimal_of 255 s ≡ Some v → s ≡ digits_text 3 v
three_back s v e = decimal_back 255 2 s v (enough 2 v (omega (arith, bounded 255 s v e))) e

twenty_back : (s : List ℕ) (v : ℕ) → decimal_of (2 ^ 64 - 1) s ≡ Some v → s ≡ digits_text 20 v
twenty_back s v e = decimal_back (2 ^ 64 - 1) 19 s v (enough 19 v (omega (arith, bounded (2 ^ 64 - 1) s v e))) e

minus : (w : ℕ) → (w ≡ 0 → ⊥) → 45 ∷ digits_text 5 w ≡ id_text (negsuc (w - 1))
unfolding id_text
minus w h = let q : w - 1 + 1 ≡ w = omega (arith, h) in rw q

high : (w : ℕ) → w ≤ 32767 → w < 32768
high w g = omega arith

low : (w : ℕ) → (w ≡ 0 → ⊥) → w ≤ 32768 → w - 1 < 32768
low w h g = omega (arith, h)

plain : (w : ℕ) → digits_text 5 w ≡ id_text (pos w)
unfolding id_text
plain w = refl

module _ (x : ℕ) (t : List ℕ) (v : VarId) where
  abbrev negative : Option VarId
  negative = on_value (decimal_of 32768 t) None (λ w. pick (eqb w 0) None (Some (record { 0 = negsuc (w - 1) })))

  abbrev positive : Option VarId
  positive = on_value (decimal_of 32767 (x ∷ t)) None (λ w. Some (record { 0 = pos w }))

  id_minus_back : negative ≡ Some v → (45 ∷ t ≡ id_text v.0) × FitsId v.0
  id_minus_back e =
      let p = on_value_lem None (Some v) (bad_good v) (decimal_of 32768 t) (λ w. pick (eqb w 0) None (Some (record { 0 = negsuc (w - 1) }))) e in
      let w = p.0 in
      let q = not_bad None (Some v) (bad_good v) (eqb w 0) (Some (record { 0 = negsuc (w - 1) })) p.2 in
      let r : record { 0 = negsuc (w - 1) } ≡ v = cc in
      let h = eqb-false w 0 q.0 in (
        ap (λ (l : List ℕ). 45 ∷ l) (five_back 32768 t w (omega arith) p.1) ∙ minus w h ∙ ap (λ (i : VarId). id_text i.0) r,
        subst (λ (i : VarId). FitsId i.0) r (low w h (bounded 32768 t w p.1)),
      )

  id_plain_back : positive ≡ Some v → (x ∷ t ≡ id_text v.0) × FitsId v.0
  id_plain_back e =
      let p = on_value_lem None (Some v) (bad_good v) (decimal_of 32767 (x ∷ t)) (λ w. Some (record { 0 = pos w })) e in
      let w = p.0 in
      let r : record { 0 = pos w } ≡ v = cc in (
        five_back 32767 (x ∷ t) w (omega arith) p.1 ∙ plain w ∙ ap (λ (i : VarId). id_text i.0) r,
        subst (λ (i : VarId). FitsId i.0) r (high w (bounded 32767 (x ∷ t) w p.1)),
      )

-- an id
pub id_back : (s : List ℕ) (v : VarId) → id_of s ≡ Some v → (s ≡ id_text v.0) × FitsId v.0
unfolding id_of
id_back [] v e = absurd (bad_good v e)
id_back (x ∷ t) v e₀ = go (eqb x 45) refl (rw (not_none (length t)) at e₀)
  where
    go : (b : Bool) → eqb x 45 ≡ b → pick b (negative x t v) (positive x t v) ≡ Some v → (x ∷ t ≡ id_text v.0) × FitsId v.0
    go true q e = let p = id_minus_back x t v e in (ap (λ (y : ℕ). y ∷ t) (eqb-true x 45 q) ∙ p.0, p.1)
    go false q e = id_plain_back x t v e

-- `id:offset:size`
var_parts : (s : List ℕ) (i : VarId) (o n : ℕ) → count_of 58 s ≡ 2 → id_of (part_of 58 s 0) ≡ Some i → decimal_of 255 (part_of 58 s 1) ≡ Some o → decimal_of 255 (part_of 58 s 2) ≡ Some n →
    (118 ∷ s ≡ var_text (record { id = i; offset = o; size = n })) × FitsId i.0
unfolding var_text
var_parts s i o n e x y z =
    let p = id_back (part_of 58 s 0) i x in
    (ap (λ (l : List ℕ). 118 ∷ l) (parts_joined 58 s 2 e ∙ parted 58 p.0 (parted 58 (three_back (part_of 58 s 1) o y) (three_back (part_of 58 s 2) n z))), p.1)

var_back : (s : List ℕ) (v : VarNode) → var_of s ≡ Some v → (118 ∷ s ≡ var_text v) × FitsId v.id.0
unfolding var_of
var_back s v e =
    let bad = None in
    let good = Some v in
    let a = passed bad good (bad_good v) (eqb (count_of 58 s) 2) _ e in
    let b = on_value_lem bad good (bad_good v) (id_of (part_of 58 s 0)) _ a.1 in
    let c = on_value_lem bad good (bad_good v) (decimal_of 255 (part_of 58 s 1)) _ b.2 in
    let d = on_value_lem bad good (bad_good v) (decimal_of 255 (part_of 58 s 2)) _ c.2 in
    let r : record { id = b.0; offset = c.0; size = d.0 } ≡ v = cc in
    subst (λ (x : VarNode). (118 ∷ s ≡ var_text x) × FitsId x.id.0) r
    (var_parts s b.0 c.0 d.0 (eqb-true _ _ a.0) b.1 c.1 d.1)

-- `value:size`
const_parts : (s : List ℕ) (v n : ℕ) → count_of 58 s ≡ 1 → decimal_of (2 ^ 64 - 1) (part_of 58 s 0) ≡ Some v → decimal_of 255 (part_of 58 s 1) ≡ Some n →
    (99 ∷ s ≡ operand_text (Operand.Const v n)) × (v < 2 ^ 64)
unfolding const_text
const_parts s v n e x y = (
  ap (λ (l : List ℕ). 99 ∷ l) (parts_joined 58 s 1 e ∙ parted 58 (twenty_back (part_of 58 s 0) v x) (three_back (part_of 58 s 1) n y)),
  omega (arith, bounded (2 ^ 64 - 1) (part_of 58 s 0) v x),
)

const_back : (s : List ℕ) (a : Operand) → const_of s ≡ Some a → (99 ∷ s ≡ operand_text a) × FitsOperand a
unfolding const_of
const_back s a e =
    let t = passed None (Some a) (bad_good a) (eqb (count_of 58 s) 1) _ e in
    let b = on_value_lem None (Some a) (bad_good a) (decimal_of (2 ^ 64 - 1) (part_of 58 s 0)) _ t.1 in
    let c = on_value_lem None (Some a) (bad_good a) (decimal_of 255 (part_of 58 s 1)) _ b.2 in
    let r : Operand.Const b.0 c.0 ≡ a = cc in
    subst (λ (x : Operand). (99 ∷ s ≡ operand_text x) × FitsOperand x) r (const_parts s b.0 c.0 (eqb-true _ _ t.0) b.1 c.1)

as_var_lem : (p : Option VarNode) (a : Operand) → as_var p ≡ Some a → (v : VarNode) × (p ≡ Some v) × (Operand.Var v ≡ a)
as_var_lem None a e = absurd (bad_good a e)
as_var_lem (Some v) a e = (v, refl, cc)

dash_only : (t : List ℕ) → suc (length t) ≡ 1 → t ≡ []
dash_only [] e = refl
dash_only (y ∷ t) e = absurd (no e)
  where
    no : suc (suc (length t)) ≡ 1 → ⊥
    no z = omega arith

-- an operand
pub operand_back : (s : List ℕ) (a : Operand) → operand_of s ≡ Some a → (s ≡ operand_text a) × FitsOperand a
unfolding operand_of
operand_back [] a e = absurd (bad_good a e)
operand_back (x ∷ t) a e₀ = go (eqb x 118) (eqb x 99) (eqb x 45) refl refl refl (rw (not_none (length t)) at e₀)
  where
    front : (y : ℕ) {s : List ℕ} → eqb x y ≡ true → y ∷ t ≡ s → x ∷ t ≡ s
    front y q h = ap (λ (z : ℕ). z ∷ t) (eqb-true x y q) ∙ h

    go : (b c d : Bool) → eqb x 118 ≡ b → eqb x 99 ≡ c → eqb x 45 ≡ d →
        pick b (as_var (var_of t)) (pick c (const_of t) (pick d (pick (eqb (suc (length t)) 1) (Some Operand.None) None) None)) ≡ Some a →
        (x ∷ t ≡ operand_text a) × FitsOperand a
    go true c d q r s e =
        let p = as_var_lem (var_of t) a e in
        let v = var_back t p.0 p.1 in
        (front 118 q v.0 ∙ ap operand_text p.2, subst FitsOperand p.2 v.1)
    go false true d q r s e = let k = const_back t a e in (front 99 r k.0, k.1)
    go false false false q r s e = absurd (bad_good a e)
    go false false true q r s e =
        let p = passed None (Some a) (bad_good a) (eqb (suc (length t)) 1) (Some Operand.None) e in
        let n : Operand.None ≡ a = cc in
        (front 45 s (ap (λ (l : List ℕ). 45 ∷ l) (dash_only t (eqb-true _ _ p.0))) ∙ ap operand_text n, subst FitsOperand n tt)

-- an output
pub output_back : (s : List ℕ) (o : Output) → output_of s ≡ Some o → (s ≡ operand_text (as_operand o)) × FitsOperand (as_operand o)
output_back s o = go (operand_of s) refl
  where
    told : (x : Output) → x ≡ o → operand_of s ≡ Some (as_operand x) → (s ≡ operand_text (as_operand o)) × FitsOperand (as_operand o)
    told x r q = subst (λ (y : Output). (s ≡ operand_text (as_operand y)) × FitsOperand (as_operand y)) r (operand_back s (as_operand x) q)

    go : (p : Option Operand) → operand_of s ≡ p → as_output p ≡ Some o → (s ≡ operand_text (as_operand o)) × FitsOperand (as_operand o)
    go None q e = absurd (bad_good o e)
    go (Some Operand.None) q e = told Out.None (cc) q
    go (Some (Operand.Const v n)) q e = absurd (bad_good o e)
    go (Some (Operand.Var v)) q e = told (Out.Some v) (cc) q

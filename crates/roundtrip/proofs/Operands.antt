-- Ids, operands and outputs, printed, are read as they were.
use Rattle.std.specs.declared.option.Option.TheVariants as Out
use Rattle.std.proofs.Common.{Some, ℕ, suc, ◌+◌, ◌-◌, ◌^◌, ◌<◌, ◌≤◌, arith, ◌≡◌, refl, ap, ◌∙◌, false, ◌⊎◌, inl, inr, List, [], ◌∷◌, ◌++◌, eq-eqb, ne_eqb, eqb, ℤ, pos, negsuc, length, length-append}
use Rattle.pcode.specs.Var.{as_operand}
use Rattle.pcode.specs.declared.var.VarId.{VarId}
use Rattle.pcode.specs.declared.var.VarNode.{VarNode}
use Rattle.pcode.specs.declared.var.Operand.{Operand}
use Rattle.pcode.specs.Var.{Output}
use Rattle.fields.specs.Parts.{part_of, count_of}
use Rattle.fields.specs.Decimals.{decimal_of}
use Rattle.record.specs.Operands.{id_of, var_of, const_of, operand_of, output_of, as_var, as_output}
use Rattle.print.specs.Rooms.{id_room, operand_room}
use Rattle.print.specs.Texts.{digits_text, id_text, const_text, var_text, operand_text}
use Rattle.roundtrip.specs.Fits.{FitsId, FitsOperand}
use Rattle.roundtrip.proofs.Sizes.{SmallOperand}
use Rattle.roundtrip.proofs.Parts.{Without, count_empty, count_other, count_at, without_append, part_last, part_first, part_next}
use Rattle.roundtrip.proofs.Digits.{enough, Digits, digits_are, digits_apart, length_digits, decimal_digits}
use Rattle.roundtrip.proofs.Inverse.{bad_good}

-- decimals in the rooms that the text form gives them
pub five : (limit v : ℕ) → v < 100000 → v ≤ limit → decimal_of limit (digits_text 5 v) ≡ Some v
five limit v h g = decimal_digits limit 5 v (enough 4 v h) g

pub three : (v : ℕ) → v < 256 → decimal_of 255 (digits_text 3 v) ≡ Some v
three v h = decimal_digits 255 3 v (enough 2 v (omega arith)) (omega arith)

twenty : (v : ℕ) → v < 2 ^ 64 → decimal_of (2 ^ 64 - 1) (digits_text 20 v) ≡ Some v
twenty v h = decimal_digits (2 ^ 64 - 1) 20 v (enough 19 v (omega arith)) (omega arith)

made : ℤ → VarId
made z = record { 0 = z }

pub not_none : (n : ℕ) → eqb (suc n) 0 ≡ false
not_none n = ne_eqb (suc n) 0 (λ e. no e)
  where
    no : suc n ≡ 0 → ⊥
    no e = omega (arith, e)

id_plain : (s : List ℕ) (n : ℕ) → Digits s → decimal_of 32767 s ≡ Some n → id_of s ≡ Some (record { 0 = pos n })
unfolding id_of decimal_of
id_plain [] n d e = absurd (bad_good n e)
id_plain (x ∷ s) n d e = rw (not_none (length s), ne_eqb x 45 (λ q. no q), e)
  where
    no : x ≡ 45 → ⊥
    no q = omega (arith, d.0)

id_minus : (s : List ℕ) (n : ℕ) → decimal_of 32768 s ≡ Some (n + 1) → id_of (45 ∷ s) ≡ Some (record { 0 = negsuc n })
unfolding id_of
id_minus s n e =
    let q : n + 1 - 1 ≡ n = omega arith in
    rw (not_none (length s), e, ne_eqb (n + 1) 0 (λ z. no z), q)
  where
    no : n + 1 ≡ 0 → ⊥
    no z = omega arith

-- an id
pub id_read : (z : ℤ) → FitsId z → id_of (id_text z) ≡ Some (record { 0 = z })
unfolding id_text
id_read (pos n) h = id_plain (digits_text 5 n) n (digits_are 5 n) (five 32767 n (omega arith) (omega arith))
id_read (negsuc n) h = id_minus (digits_text 5 (n + 1)) n (five 32768 (n + 1) (omega arith) (omega arith))

-- what stands in no id, and an id's length
pub id_apart : (b : ℕ) (z : ℤ) → (b < 45) ⊎ (57 < b) → Without b (id_text z)
unfolding id_text
id_apart b (pos n) f = digits_apart b 5 n (wider f)
  where
    wider : (b < 45) ⊎ (57 < b) → (b < 48) ⊎ (57 < b)
    wider (inl h) = inl (omega arith)
    wider (inr h) = inr h
id_apart b (negsuc n) f = count_other b 45 _ (no f) ∙ digits_apart b 5 (n + 1) (wider f)
  where
    wider : (b < 45) ⊎ (57 < b) → (b < 48) ⊎ (57 < b)
    wider (inl h) = inl (omega arith)
    wider (inr h) = inr h

    no : (b < 45) ⊎ (57 < b) → 45 ≡ b → ⊥
    no (inl h) e = omega arith
    no (inr h) e = omega arith

pub id_length : (z : ℤ) → length (id_text z) ≤ id_room
unfolding id_text
id_length (pos n) = omega (arith, length_digits 5 n)
id_length (negsuc n) = omega (arith, length_digits 5 (n + 1))

-- a variable from its parts
var_good : (s : List ℕ) (v : VarId) (o n : ℕ) → count_of 58 s ≡ 2 → id_of (part_of 58 s 0) ≡ Some v → decimal_of 255 (part_of 58 s 1) ≡ Some o → decimal_of 255 (part_of 58 s 2) ≡ Some n →
    var_of s ≡ Some (record { id = v; offset = o; size = n })
unfolding var_of
var_good s v o n c h k l = rw (eq-eqb (count_of 58 s) 2 c, h, k, l)

const_good : (s : List ℕ) (v n : ℕ) → count_of 58 s ≡ 1 → decimal_of (2 ^ 64 - 1) (part_of 58 s 0) ≡ Some v → decimal_of 255 (part_of 58 s 1) ≡ Some n →
    const_of s ≡ Some (Operand.Const v n)
unfolding const_of
const_good s v n c h k = rw (eq-eqb (count_of 58 s) 1 c, h, k)

-- three texts parted by colons
module _ (x y z : List ℕ) (h : Without 58 x) (k : Without 58 y) (l : Without 58 z) where
  abbrev joined : List ℕ
  joined = x ++ 58 ∷ (y ++ 58 ∷ z)

  three_count : count_of 58 joined ≡ 2
  three_count = count_at 58 (y ++ 58 ∷ z) x h ∙ ap suc (count_at 58 z y k) ∙ ap (λ (n : ℕ). suc (suc n)) l

  three_0 : part_of 58 joined 0 ≡ x
  three_0 = part_first 58 x h (y ++ 58 ∷ z)

  three_1 : part_of 58 joined 1 ≡ y
  three_1 = part_next 58 x h (y ++ 58 ∷ z) 0 ∙ part_first 58 y k z

  three_2 : part_of 58 joined 2 ≡ z
  three_2 = part_next 58 x h (y ++ 58 ∷ z) 1 ∙ part_next 58 y k z 0 ∙ part_last 58 z l

var_read : (v : VarNode) → FitsId v.id.0 → v.offset < 256 → v.size < 256 → operand_of (var_text v) ≡ Some (Operand.Var v)
unfolding var_text operand_of
var_read v f o n =
    let x = id_text v.id.0 in
    let y = digits_text 3 v.offset in
    let z = digits_text 3 v.size in
    let h = id_apart 58 v.id.0 (inr (omega arith)) in
    let k = digits_apart 58 3 v.offset (inr (omega arith)) in
    let l = digits_apart 58 3 v.size (inr (omega arith)) in
    let s = x ++ 58 ∷ (y ++ 58 ∷ z) in
    let e : var_of s ≡ Some v =
    var_good s v.id v.offset v.size (three_count x y z h k l)
    (ap id_of (three_0 x y z h k l) ∙ id_read v.id.0 f)
    (ap (decimal_of 255) (three_1 x y z h k l) ∙ three v.offset o)
    (ap (decimal_of 255) (three_2 x y z h k l) ∙ three v.size n) in
    rw (not_none (length s)) (ap as_var e)

const_read : (v n : ℕ) → v < 2 ^ 64 → n < 256 → operand_of (const_text v n) ≡ Some (Operand.Const v n)
unfolding const_text operand_of
const_read v n f g =
    let x = digits_text 20 v in
    let y = digits_text 3 n in
    let h = digits_apart 58 20 v (inr (omega arith)) in
    let k = digits_apart 58 3 n (inr (omega arith)) in
    let s = x ++ 58 ∷ y in
    let e : const_of s ≡ Some (Operand.Const v n) =
    const_good s v n (count_at 58 y x h ∙ ap suc k)
    (ap (decimal_of (2 ^ 64 - 1)) (part_first 58 x h y) ∙ twenty v f)
    (ap (decimal_of 255) (part_next 58 x h y 0 ∙ part_last 58 y k) ∙ three n g) in
    rw (not_none (length s)) e

-- an operand, and an output
pub operand_read : (a : Operand) → FitsOperand a → SmallOperand a → operand_of (operand_text a) ≡ Some a
unfolding operand_of
operand_read Operand.None f g = refl
operand_read (Operand.Const v n) f g = const_read v n f g
operand_read (Operand.Var v) f g = var_read v f g.0 g.1

pub output_read : (o : Output) → FitsOperand (as_operand o) → SmallOperand (as_operand o) → output_of (operand_text (as_operand o)) ≡ Some o
output_read Out.None f g = ap as_output (operand_read Operand.None f g)
output_read (Out.Some v) f g = ap as_output (operand_read (Operand.Var v) f g)

-- what stands in no operand, and an operand's length
pub operand_apart : (b : ℕ) (a : Operand) → b < 45 → Without b (operand_text a)
unfolding const_text var_text
operand_apart b Operand.None h = count_other b 45 [] (λ e. no e) ∙ count_empty b
  where
    no : 45 ≡ b → ⊥
    no e = omega arith
operand_apart b (Operand.Const v n) h =
    count_other b 99 _ (λ e. no 99 (omega arith) e)
    ∙ without_append b (digits_text 20 v) (58 ∷ digits_text 3 n) (digits_apart b 20 v (inl (omega arith)))
    (count_other b 58 _ (λ e. no 58 (omega arith) e) ∙ digits_apart b 3 n (inl (omega arith)))
  where
    no : (x : ℕ) → 45 ≤ x → x ≡ b → ⊥
    no x g e = omega arith
operand_apart b (Operand.Var v) h =
    count_other b 118 _ (λ e. no 118 (omega arith) e)
    ∙ without_append b (id_text v.id.0) (58 ∷ (digits_text 3 v.offset ++ 58 ∷ digits_text 3 v.size)) (id_apart b v.id.0 (inl h))
    (count_other b 58 _ (λ e. no 58 (omega arith) e)
    ∙ without_append b (digits_text 3 v.offset) (58 ∷ digits_text 3 v.size) (digits_apart b 3 v.offset (inl (omega arith)))
    (count_other b 58 _ (λ e. no 58 (omega arith) e) ∙ digits_apart b 3 v.size (inl (omega arith))))
  where
    no : (x : ℕ) → 45 ≤ x → x ≡ b → ⊥
    no x g e = omega arith

pub operand_length : (a : Operand) → length (operand_text a) ≤ operand_room
unfolding const_text var_text
operand_length Operand.None = omega arith
operand_length (Operand.Const v n) = omega (arith, length-append (digits_text 20 v) (58 ∷ digits_text 3 n), length_digits 20 v, length_digits 3 n)
operand_length (Operand.Var v) =
    omega (
      arith,
      length-append (id_text v.id.0) (58 ∷ (digits_text 3 v.offset ++ 58 ∷ digits_text 3 v.size)),
      id_length v.id.0,
      length-append (digits_text 3 v.offset) (58 ∷ digits_text 3 v.size),
      length_digits 3 v.offset,
      length_digits 3 v.size,
    )

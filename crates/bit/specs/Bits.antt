-- A symbolic bit by cases, in 01's words: what the methods of `Bit` and `Expr` promise.
use Rattle.std.specs.Prelude.{ℕ, ◌+◌, ◌*◌, ◌-◌, ◌/◌, ◌%◌, Bool, true, false, not, eqb, ltb}
use Rattle.bit.specs.declared.Expr.{Expr}
use Rattle.bit.specs.declared.Kin.{Kin}
use Rattle.bit.specs.declared.Kin.TheVariants.{Same, Opposite, Unrelated}
use Rattle.bit.specs.declared.Bit.{Bit}
use Rattle.bit.specs.declared.Bit.TheVariants.{Zero, One, Unknown, Expr as Sym}

-- opposite: the same id and offset, the other inversion
abbrev pub kin_signs : Bool → Bool → Kin
kin_signs true true = Same
kin_signs true false = Opposite
kin_signs false true = Opposite
kin_signs false false = Same

-- by whether ids and offsets are the same, and by both inversions
abbrev pub kin_tests : Bool → Bool → Bool → Bool → Kin
kin_tests false o x y = Unrelated
kin_tests true false x y = Unrelated
kin_tests true true x y = kin_signs x y

-- two expressions are the same, opposite or unrelated
abbrev pub kin_of : Expr → Expr → Kin
kin_of a b = kin_tests (eqb a.id.0 b.id.0) (eqb a.offset b.offset) a.invert b.invert

-- unrelated expressions give unknown
abbrev pub by_kin : Kin → Bit → Bit → Bit
by_kin Same s o = s
by_kin Opposite s o = o
by_kin Unrelated s o = Unknown

-- an expression inverted
abbrev pub not_e : Expr → Expr
not_e e = record { id = e.id; offset = e.offset; invert = not e.invert }

-- unknown inverted is unknown
unfoldable pub not_b : Bit → Bit
not_b Zero = One
not_b One = Zero
not_b Unknown = Unknown
not_b (Sym e) = Sym (not_e e)

-- what an expression and a bit give, by the bit: at zero, at one, at the same expression, at its opposite; unknown at unknown
abbrev pub beside : Bit → Expr → Bit → Bit → Bit → Bit → Bit
beside Zero e z o s p = z
beside One e z o s p = o
beside Unknown e z o s p = Unknown
beside (Sym b) e z o s p = by_kin (kin_of e b) s p

-- zero decides a conjunction, also against unknown
abbrev pub zero_or_unknown : Bit → Bit
zero_or_unknown Zero = Zero
zero_or_unknown One = Unknown
zero_or_unknown Unknown = Unknown
zero_or_unknown (Sym b) = Unknown

-- one decides a disjunction, also against unknown
abbrev pub one_or_unknown : Bit → Bit
one_or_unknown Zero = Unknown
one_or_unknown One = One
one_or_unknown Unknown = Unknown
one_or_unknown (Sym b) = Unknown

-- an expression and itself give it, an expression and its opposite zero
unfoldable pub and_b : Bit → Bit → Bit
and_b Zero y = Zero
and_b One y = y
and_b Unknown y = zero_or_unknown y
and_b (Sym a) y = beside y a Zero (Sym a) (Sym a) Zero

-- an expression or itself gives it, an expression or its opposite one
unfoldable pub or_b : Bit → Bit → Bit
or_b Zero y = y
or_b One y = One
or_b Unknown y = one_or_unknown y
or_b (Sym a) y = beside y a (Sym a) One (Sym a) One

-- unknown exclusive or anything is unknown, unknown too
unfoldable pub xor_b : Bit → Bit → Bit
xor_b Zero y = y
xor_b One y = not_b y
xor_b Unknown y = Unknown
xor_b (Sym a) y = beside y a (Sym a) (Sym (not_e a)) Zero One

-- whether two bits are equal
unfoldable pub eq_b : Bit → Bit → Bit
eq_b Zero y = not_b y
eq_b One y = y
eq_b Unknown y = Unknown
eq_b (Sym a) y = beside y a (Sym (not_e a)) (Sym a) One Zero

-- 1 for true, 0 for false
abbrev pub one_if : Bool → ℕ
one_if true = 1
one_if false = 0

-- an expression's number: from 4 on, odd where inverted
abbrev pub code_e : Expr → ℕ
code_e e = 4 + 512 * e.id.0 + 2 * e.offset + one_if e.invert

-- the number that stands for a bit: zero 0, one 1, unknown 2
unfoldable pub code_of : Bit → ℕ
code_of Zero = 0
code_of One = 1
code_of Unknown = 2
code_of (Sym e) = code_e e

-- the expression of a code less four
abbrev pub expr_of : ℕ → Expr
expr_of m = record { id = record { 0 = m / 512 % 4294967296 }; offset = m / 2 % 256; invert = eqb (m % 2) 1 }

-- one of two values, by a test
abbrev pub pick {ℓ} : {A : Type ℓ} → Bool → A → A → A
pick true x y = x
pick false x y = y

-- the bit that a number stands for; every number stands for one
unfoldable pub bit_of : ℕ → Bit
bit_of n = pick (eqb n 0) Zero (pick (eqb n 1) One (pick (ltb n 4) Unknown (Sym (expr_of (n - 4)))))

-- Codes and bits: a bit whose expression is small comes back from its code, and the operations keep bits small.
-- Assumes nothing.
use Rattle.std.proofs.Common.{ℕ, ◌+◌, ◌*◌, ◌-◌, ◌/◌, ◌%◌, ◌<◌, ◌≡◌, ap, refl, Bool, true, false, arith, eq-eqb, ne_eqb, le-ltb, eqb, ltb}
use Rattle.bit.specs.declared.Kin.{Kin}
use Rattle.bit.specs.declared.Kin.TheVariants.{Same, Opposite, Unrelated}
use Rattle.bit.specs.Bits.{code_e, code_of, bit_of, expr_of, one_if, pick, kin_of, by_kin, beside, zero_or_unknown, one_or_unknown, not_e, not_b, and_b, or_b, xor_b, eq_b}
use Rattle.bit.specs.declared.Expr.{Expr}
use Rattle.bit.specs.declared.Bit.{Bit}
use Rattle.bit.specs.declared.Bit.TheVariants.{Zero, One, Unknown, Expr as Sym}

abbrev pub SmallE : Expr → Type 0
SmallE e = (e.id.0 < 4294967296) × (e.offset < 256)

abbrev pub Small : Bit → Type 0
Small Zero = Unit {0}
Small One = Unit {0}
Small Unknown = Unit {0}
Small (Sym e) = SmallE e

sign : (k : ℕ) (v : Bool) → eqb ((2 * k + one_if v) % 2) 1 ≡ v
sign k true = eq-eqb ((2 * k + 1) % 2) 1 (omega arith)
sign k false = ne_eqb ((2 * k + 0) % 2) 1 (omega arith)

small_sign : (v : Bool) → one_if v < 2
small_sign true = omega arith
small_sign false = omega arith

sym_round : (e : Expr) → SmallE e → bit_of (code_e e) ≡ Sym e
unfolding bit_of
sym_round e h =
    let n : ℕ = code_e e in
    let s : one_if e.invert < 2 = small_sign e.invert in
    let k : ℕ = 256 * e.id.0 + e.offset in
    let m : n - 4 ≡ 2 * k + one_if e.invert = omega arith in
    rw (ne_eqb n 0 (omega arith), ne_eqb n 1 (omega arith), le-ltb n 4 (omega arith))
    (ap Sym
    (λ i.
    record {
      id = record { 0 = (let p : (n - 4) / 512 % 4294967296 ≡ e.id.0 = omega arith in p) i };
      offset = (let p : (n - 4) / 2 % 256 ≡ e.offset = omega arith in p) i;
      invert = (let p : eqb ((n - 4) % 2) 1 ≡ e.invert = rw m (sign k e.invert) in p) i;
    }))

pub round : (b : Bit) → Small b → bit_of (code_of b) ≡ b
unfolding bit_of code_of
round Zero h = refl
round One h = refl
round Unknown h = refl
round (Sym e) h = sym_round e h

-- the operations keep bits small
small_kin : (k : Kin) (s p : Bit) → Small s → Small p → Small (by_kin k s p)
small_kin Same s p hs hp = hs
small_kin Opposite s p hs hp = hp
small_kin Unrelated s p hs hp = tt

small_beside : (y : Bit) (e : Expr) (z o s p : Bit) → Small z → Small o → Small s → Small p → Small (beside y e z o s p)
small_beside Zero e z o s p hz ho hs hp = hz
small_beside One e z o s p hz ho hs hp = ho
small_beside Unknown e z o s p hz ho hs hp = tt
small_beside (Sym b) e z o s p hz ho hs hp = small_kin (kin_of e b) s p hs hp

pub small_not : (x : Bit) → Small x → Small (not_b x)
unfolding not_b
small_not Zero h = tt
small_not One h = tt
small_not Unknown h = tt
small_not (Sym e) h = h

small_zero : (y : Bit) → Small (zero_or_unknown y)
small_zero Zero = tt
small_zero One = tt
small_zero Unknown = tt
small_zero (Sym b) = tt

small_one : (y : Bit) → Small (one_or_unknown y)
small_one Zero = tt
small_one One = tt
small_one Unknown = tt
small_one (Sym b) = tt

pub small_and : (x y : Bit) → Small x → Small y → Small (and_b x y)
unfolding and_b
small_and Zero y hx hy = tt
small_and One y hx hy = hy
small_and Unknown y hx hy = small_zero y
small_and (Sym a) y hx hy = small_beside y a Zero (Sym a) (Sym a) Zero tt hx hx tt

pub small_or : (x y : Bit) → Small x → Small y → Small (or_b x y)
unfolding or_b
small_or Zero y hx hy = hy
small_or One y hx hy = tt
small_or Unknown y hx hy = small_one y
small_or (Sym a) y hx hy = small_beside y a (Sym a) One (Sym a) One hx tt hx tt

pub small_xor : (x y : Bit) → Small x → Small y → Small (xor_b x y)
unfolding xor_b not_b
small_xor Zero y hx hy = hy
small_xor One y hx hy = small_not y hy
small_xor Unknown y hx hy = tt
small_xor (Sym a) y hx hy = small_beside y a (Sym a) (Sym (not_e a)) Zero One hx hx tt tt

pub small_eq : (x y : Bit) → Small x → Small y → Small (eq_b x y)
unfolding eq_b not_b
small_eq Zero y hx hy = small_not y hy
small_eq One y hx hy = hy
small_eq Unknown y hx hy = tt
small_eq (Sym a) y hx hy = small_beside y a (Sym (not_e a)) (Sym a) One Zero hx hx tt tt

-- what is read from a number is small
small_pick : (t : Bool) (x y : Bit) → Small x → Small y → Small (pick t x y)
small_pick true x y hx hy = hx
small_pick false x y hx hy = hy

pub small_bit : (n : ℕ) → Small (bit_of n)
unfolding bit_of
small_bit n =
    small_pick (eqb n 0) Zero _ tt
    (small_pick (eqb n 1) One _ tt
    (small_pick (ltb n 4) Unknown (Sym (expr_of (n - 4))) tt (omega arith, omega arith)))

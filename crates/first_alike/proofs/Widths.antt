-- Widening: the bytes directly above an output that are known to be zero are zero.
use Rattle.std.proofs.Common.{Option, None, Some, ℕ, zero, suc, ◌+◌, ◌*◌, ◌-◌, ◌/◌, ◌%◌, ◌^◌, ◌≤◌, ◌<◌, arith, mod-eq_of_lt, ◌≡◌, refl, sym, ap, ap₂, ◌∙◌, subst, Bool, true, false, List, eqb-true, eqb, shr-shr, take, drop, drop-drop}
use lib.Pow.{mod-pow-add}
use Rattle.pcode.specs.Var.{pick}
use Rattle.pcode.specs.Block.{has_id}
use Rattle.pcode.specs.declared.var.VarId.{VarId}
use Rattle.pcode.specs.declared.var.VarNode.{VarNode}
use Rattle.std.specs.declared.option.Option.TheVariants as Out
use Rattle.vars.specs.Vars.{row_of, held_ids}
use Rattle.vars.specs.declared.Vars.{Vars}
use Rattle.bit_vec.specs.Lists.{bits}
use Rattle.bit_vec.specs.Known.{trailing_zeros}
use Rattle.const_eval.specs.State as Known
use Rattle.uses.specs.Operands.{place_of}
use Rattle.widen.specs.Widen.{zeros_above, is_power, widened_of, lowest}
use Rattle.widen.proofs.Sizes.{widened_le}
use Rattle.sound.specs.Sound.{num, low}
use Rattle.sound.proofs.Numbers.{num_low}
use Rattle.alike.proofs.Havoc.{State, num_by, put_by}
use Rattle.alike.proofs.Parts.{Bytewise}
use Rattle.first_alike.proofs.Sure.{Holds, trailing_part}
use Rattle.first_alike.proofs.Splices.{cut}
use Rattle.first_alike.proofs.Valid.{InUse, Valid, byte_codes, rows_at}
use Rattle.first_alike.proofs.Puts.{put_same, put_wide, put_off, put_byte}

-- a widened size, and the zero bytes below it
pub record Wide (s : State) (o : VarNode) (w : ℕ) : Type 0 where
  pub bottom : o.offset ≡ 0
  pub wider : o.size ≤ w
  pub inside : w ≤ 16
  pub zeros : (j : ℕ) → o.size ≤ j → j < w → s o.id j ≡ 0

module _ (vars : Vars) (K : Known.State) (s : State) (bytes : Bytewise s) (v : Valid (held_ids vars) K s) (o : VarNode) (here : has_id (held_ids vars) o.id ≡ true)
    (inuse : InUse K.used (row_of (held_ids vars) o.id)) where
  abbrev row : ℕ
  row = row_of (held_ids vars) o.id

  zero_byte : (j : ℕ) → o.size ≤ j → j < 16 → o.offset ≡ 0 → j < o.size + zeros_above K.store (place_of vars o) → s o.id j ≡ 0
  unfolding zeros_above
  zero_byte j l h z m =
      let n : ℕ = 8 * (o.offset + o.size) in
      let at : ℕ = 128 * row + n in
      let xs : List ℕ = take (128 - n) (drop at K.store) in
      let a : ℕ = 8 * (j - o.size) in
      let t : ℕ = trailing_zeros (bits xs) in
      let q : j < o.size + t / 8 = m in
      let y : at + a ≡ 128 * row + 8 * j = omega (arith, z) in
      let e : take 8 (drop a xs) ≡ byte_codes row j K.store =
      cut a 8 (128 - n) (drop at K.store) (omega (arith, z)) ∙ ap (take 8) (drop-drop a at K.store ∙ ap (λ (i : ℕ). drop i K.store) y) in
      let b : Holds v.values (byte_codes row j K.store) (low 8 (s o.id j)) =
      rows_at (held_ids vars) v.values K.used K.store s (v.rows v.values (λ i p w. refl)) o.id here inuse j h in
      let r : num (low 8 (s o.id j)) ≡ 0 =
      trailing_part v.values a 8 xs (low 8 (s o.id j)) (omega (arith, q)) (subst (λ (ys : List ℕ). Holds v.values ys (low 8 (s o.id j))) (sym e) b) in
      sym (mod-eq_of_lt (bytes o.id j)) ∙ sym (num_low 8 (s o.id j)) ∙ r

  pub widened_wide : (n : ℕ) → widened_of K.store (place_of vars o) ≡ Some n → Wide s o n
  unfolding widened_of
  widened_wide n h = go (eqb o.offset 0) (eqb (zeros_above K.store (place_of vars o)) 0) (is_power (o.size + zeros_above K.store (place_of vars o))) refl h
    where
      wide : ℕ
      wide = o.size + zeros_above K.store (place_of vars o)

      go : (a b c : Bool) → eqb o.offset 0 ≡ a → ◌≡◌ {A = Option ℕ} (pick a (pick b None (pick c (Some wide) None)) None) (Some n) → Wide s o n
      go false b c e q = absurd (cc)
      go true true c e q = absurd (cc)
      go true false false e q = absurd (cc)
      go true false true e q =
          let z : o.offset ≡ 0 = eqb-true o.offset 0 e in
          let k : wide ≡ n = cc in
          let l : n ≤ 16 = widened_le K.store (place_of vars o) n h in
          record { bottom = z; wider = omega (arith, k); inside = l; zeros = λ j p q. zero_byte j p (omega (arith, l, q)) z (omega (arith, k, q)) }

-- the number of bytes that are another number's
num_of : (t : State) (id : VarId) (o n y : ℕ) → ((i : ℕ) → i < n → t id (o + i) ≡ y / 2 ^ (8 * i) % 256) → num_by t id o n ≡ y % 2 ^ (8 * n)
unfolding num_by
num_of t id o zero y h = omega arith
num_of t id o (suc n) y h =
    let z : o + 0 ≡ o = omega arith in
    let a : t id o ≡ y % 256 = ap (t id) (sym z) ∙ h 0 (omega arith) ∙ ap (λ (m : ℕ). m % 256) (let d : y / 2 ^ 0 ≡ y = omega arith in d) in
    let ih : num_by t id (suc o) n ≡ (y / 2 ^ 8) % 2 ^ (8 * n) =
    num_of t id (suc o) n (y / 2 ^ 8)
    (λ i l. ap (t id) (let q : suc o + i ≡ o + suc i = omega arith in q) ∙ h (suc i) (omega arith)
    ∙ ap (λ (m : ℕ). m % 256) (ap (λ (m : ℕ). y / 2 ^ m) (let q : 8 * suc i ≡ 8 + 8 * i = omega arith in q) ∙ sym (shr-shr y 8 (8 * i)))) in
    let m : y % 2 ^ (8 * n + 8) ≡ (y / 2 ^ 8 % 2 ^ (8 * n)) * 2 ^ 8 + y % 2 ^ 8 = mod-pow-add y (8 * n) 8 in
    let q : 8 * suc n ≡ 8 * n + 8 = omega arith in
    let c : t id o + 256 * num_by t id (suc o) n ≡ y % 2 ^ (8 * n + 8) = ap₂ (λ (i j : ℕ). i + 256 * j) a ih ∙ shape (y % 256) (y / 2 ^ 8 % 2 ^ (8 * n)) ∙ sym m in
    c ∙ ap (λ (i : ℕ). y % 2 ^ i) (sym q)
  where
    shape : (i j : ℕ) → i + 256 * j ≡ j * 2 ^ 8 + i
    shape i j = omega arith

-- reading what was written
pub num_put : (s : State) (v : VarNode) (x : ℕ) → v.offset + v.size ≤ 16 → num_by (put_by s (Out.Some v) x) v.id v.offset v.size ≡ x % 2 ^ (8 * v.size)
num_put s v x f =
    num_of (put_by s (Out.Some v) x) v.id v.offset v.size x
    (λ i l. put_byte s v x (v.offset + i) f (omega arith) (omega arith) ∙ ap (λ (m : ℕ). x / 2 ^ (8 * m) % 256) (let q : v.offset + i - v.offset ≡ i = omega arith in q))

-- a write at a widened size, or at its own: of a number with the same low bytes
pub put_widened : (s : State) (o : VarNode) (x y w : ℕ) (id : VarId) (k : ℕ) → o.offset + o.size ≤ 16 → y < 2 ^ (8 * o.size) → y ≡ x % 2 ^ (8 * o.size)
    → Wide (put_by s (Out.Some o) x) o w → put_by s (Out.Some o) x id k ≡ put_by s (lowest o w) y id k
put_widened s o x y w id k f l e d =
    put_same s o x y id k f (sym e ∙ sym (mod-eq_of_lt l))
    ∙ put_wide s o w y id k d.bottom d.wider d.inside l
    (λ j p q. sym (put_off s o x o.id j f (λ r a b. omega (arith, d.bottom, p))) ∙ d.zeros j p q)

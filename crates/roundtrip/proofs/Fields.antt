-- A line of five fields parted by tabs.
use Rattle.std.proofs.Common.{ℕ, suc, ◌+◌, arith, ◌≡◌, ap, ◌∙◌, List, [], ◌∷◌, ◌++◌, append_assoc, length, length-append}
use Rattle.fields.specs.Parts.{part_of, count_of}
use Rattle.roundtrip.proofs.Parts.{Without, count_other, count_at, without_append, part_last, part_first, part_next}

-- five texts parted by tabs
abbrev pub fields : List ℕ → List ℕ → List ℕ → List ℕ → List ℕ → List ℕ
fields u v x y z = u ++ 9 ∷ (v ++ 9 ∷ (x ++ 9 ∷ (y ++ 9 ∷ z)))

module _ (u v x y z : List ℕ) where
  pub five_length : length (fields u v x y z) ≡ length u + length v + length x + length y + length z + 4
  five_length =
      omega (
        arith,
        length-append u (9 ∷ (v ++ 9 ∷ (x ++ 9 ∷ (y ++ 9 ∷ z)))),
        length-append v (9 ∷ (x ++ 9 ∷ (y ++ 9 ∷ z))),
        length-append x (9 ∷ (y ++ 9 ∷ z)),
        length-append y (9 ∷ z),
      )

  pub five_ended : (u ++ (9 ∷ (v ++ 9 ∷ []))) ++ (x ++ 9 ∷ (y ++ 9 ∷ (z ++ 10 ∷ []))) ≡ fields u v x y z ++ 10 ∷ []
  five_ended = simp append_assoc

  pub five_without : Without 10 u → Without 10 v → Without 10 x → Without 10 y → Without 10 z → Without 10 (fields u v x y z)
  five_without a b c d e = after u _ a (after v _ b (after x _ c (after y z d e)))
    where
      no : ◌≡◌ {A = ℕ} 9 10 → ⊥
      no q = omega arith

      after : (s t : List ℕ) → Without 10 s → Without 10 t → Without 10 (s ++ 9 ∷ t)
      after s t g h = without_append 10 s (9 ∷ t) g (count_other 10 9 t no ∙ h)

-- texts without a tab
pub record Tabless (u v x y z : List ℕ) : Type 0 where
  pub name : Without 9 u
  pub number : Without 9 v
  pub output : Without 9 x
  pub first : Without 9 y
  pub second : Without 9 z

-- the fields of a line of such texts
module _ (u v x y z : List ℕ) (h : Tabless u v x y z) where
  pub five_count : count_of 9 (fields u v x y z) ≡ 4
  five_count =
      count_at 9 (v ++ 9 ∷ (x ++ 9 ∷ (y ++ 9 ∷ z))) u h.name ∙ ap suc (count_at 9 (x ++ 9 ∷ (y ++ 9 ∷ z)) v h.number)
      ∙ ap (λ (n : ℕ). suc (suc n)) (count_at 9 (y ++ 9 ∷ z) x h.output) ∙ ap (λ (n : ℕ). suc (suc (suc n))) (count_at 9 z y h.first)
      ∙ ap (λ (n : ℕ). suc (suc (suc (suc n)))) h.second

  pub five_0 : part_of 9 (fields u v x y z) 0 ≡ u
  five_0 = part_first 9 u h.name (v ++ 9 ∷ (x ++ 9 ∷ (y ++ 9 ∷ z)))

  pub five_1 : part_of 9 (fields u v x y z) 1 ≡ v
  five_1 = part_next 9 u h.name (v ++ 9 ∷ (x ++ 9 ∷ (y ++ 9 ∷ z))) 0 ∙ part_first 9 v h.number (x ++ 9 ∷ (y ++ 9 ∷ z))

  pub five_2 : part_of 9 (fields u v x y z) 2 ≡ x
  five_2 =
      part_next 9 u h.name (v ++ 9 ∷ (x ++ 9 ∷ (y ++ 9 ∷ z))) 1 ∙ part_next 9 v h.number (x ++ 9 ∷ (y ++ 9 ∷ z)) 0 ∙ part_first 9 x h.output (y ++ 9 ∷ z)

  pub five_3 : part_of 9 (fields u v x y z) 3 ≡ y
  five_3 =
      part_next 9 u h.name (v ++ 9 ∷ (x ++ 9 ∷ (y ++ 9 ∷ z))) 2 ∙ part_next 9 v h.number (x ++ 9 ∷ (y ++ 9 ∷ z)) 1 ∙ part_next 9 x h.output (y ++ 9 ∷ z) 0
      ∙ part_first 9 y h.first z

  pub five_4 : part_of 9 (fields u v x y z) 4 ≡ z
  five_4 =
      part_next 9 u h.name (v ++ 9 ∷ (x ++ 9 ∷ (y ++ 9 ∷ z))) 3 ∙ part_next 9 v h.number (x ++ 9 ∷ (y ++ 9 ∷ z)) 2 ∙ part_next 9 x h.output (y ++ 9 ∷ z) 1
      ∙ part_next 9 y h.first z 0 ∙ part_last 9 z h.second

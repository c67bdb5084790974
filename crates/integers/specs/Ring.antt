-- Identities and orders of sums and products. Each integer is written as a difference of naturals (`whole` for an
-- unknown, `lit` and `lit_` for a literal), `simp ring` carries the operations out on the differences, and `⊖_≡` or
-- `⊖_≤` leaves one statement on naturals:
--     rw (whole a, whole b, lit 7) (simp ring (⊖_≡ _ _ _ _ (simp products (omega arith))))
use Rattle.std.specs.Prelude.{◌≡◌, ℕ, suc, ◌+◌, ◌*◌, ◌≤◌, ◌<◌, ℤ, pos, negsuc, neg_ℤ, ◌+ℤ◌, ◌*ℤ◌, ◌≤ℤ◌, ◌<ℤ◌}
use Rattle.std.proofs.Common.{ap, mul-add, add-mul, mul_assoc, mul_comm, mul_left_comm, mul-zero, zero-mul, arith}
use Rattle.std.proofs.Math.IntN.{sub_ℕ}
use Rattle.integers.specs.Parts.{pos_part, neg_part, parts_add, parts_subℕ, ≤_parts, <_parts, pos_part_neg, neg_part_neg, zarith}
use Rattle.integers.specs.Product.{pos_part_mul, neg_part_mul}

-- a less b, as an integer
infix 8 ◌⊖◌
pub ◌⊖◌ : ℕ → ℕ → ℤ
a ⊖ b = sub_ℕ a b

-- its parts, for `omega`
pub ⊖_parts : (a b : ℕ) → pos_part (a ⊖ b) + b ≡ neg_part (a ⊖ b) + a
unfolding ◌⊖◌
⊖_parts a b = parts_subℕ a b

-- an unknown, a literal and a negative literal as differences
pub whole : (z : ℤ) → z ≡ pos_part z ⊖ neg_part z
whole z = omega (zarith, ⊖_parts (pos_part z) (neg_part z))

pub lit : (n : ℕ) → pos n ≡ n ⊖ 0
unfolding pos_part neg_part
lit n = omega (zarith, ⊖_parts n 0)

pub lit_ : (n : ℕ) → negsuc n ≡ 0 ⊖ suc n
unfolding pos_part neg_part
lit_ n = omega (zarith, ⊖_parts 0 (suc n))

-- the operations on differences
pub ⊖_add : (a b c d : ℕ) → a ⊖ b +ℤ c ⊖ d ≡ (a + c) ⊖ (b + d)
⊖_add a b c d = omega (zarith, ⊖_parts a b, ⊖_parts c d, ⊖_parts (a + c) (b + d), parts_add (a ⊖ b) (c ⊖ d))

pub ⊖_neg : (a b : ℕ) → neg_ℤ (a ⊖ b) ≡ b ⊖ a
⊖_neg a b = omega (zarith, ⊖_parts a b, ⊖_parts b a, pos_part_neg (a ⊖ b), neg_part_neg (a ⊖ b))

scaled : (k a b c d : ℕ) → a + b ≡ c + d → k * a + k * b ≡ k * c + k * d
scaled k a b c d e = simp (← mul-add) (ap (λ (n : ℕ). k * n) e)

pub ⊖_mul : (a b c d : ℕ) → a ⊖ b *ℤ c ⊖ d ≡ (a * c + b * d) ⊖ (a * d + b * c)
⊖_mul a b c d =
    let x = a ⊖ b in
    let y = c ⊖ d in
    omega (
      zarith,
      ⊖_parts (a * c + b * d) (a * d + b * c),
      pos_part_mul x y,
      neg_part_mul x y,
      scaled (pos_part x) (pos_part y) d (neg_part y) c (⊖_parts c d),
      scaled (neg_part x) (pos_part y) d (neg_part y) c (⊖_parts c d),
      scaled c (pos_part x) b (neg_part x) a (⊖_parts a b),
      scaled d (pos_part x) b (neg_part x) a (⊖_parts a b),
      mul_comm c (pos_part x),
      mul_comm c b,
      mul_comm c (neg_part x),
      mul_comm c a,
      mul_comm d (pos_part x),
      mul_comm d b,
      mul_comm d (neg_part x),
      mul_comm d a,
    )

-- equality and order of differences, as statements on naturals
pub ⊖_≡ : (a b c d : ℕ) → a + d ≡ c + b → a ⊖ b ≡ c ⊖ d
⊖_≡ a b c d e = omega (zarith, ⊖_parts a b, ⊖_parts c d)

pub ⊖_≤ : (a b c d : ℕ) → a + d ≤ c + b → (a ⊖ b) ≤ℤ (c ⊖ d)
⊖_≤ a b c d e = omega (zarith, ⊖_parts a b, ⊖_parts c d)

pub ⊖_< : (a b c d : ℕ) → a + d < c + b → (a ⊖ b) <ℤ (c ⊖ d)
⊖_< a b c d e = omega (zarith, ⊖_parts a b, ⊖_parts c d)

pub ≤_⊖ : (a b c d : ℕ) → (a ⊖ b) ≤ℤ (c ⊖ d) → a + d ≤ c + b
≤_⊖ a b c d h = omega (arith, ⊖_parts a b, ⊖_parts c d, ≤_parts h)

pub <_⊖ : (a b c d : ℕ) → (a ⊖ b) <ℤ (c ⊖ d) → a + d < c + b
<_⊖ a b c d h = omega (arith, ⊖_parts a b, ⊖_parts c d, <_parts h)

-- the operations, for `simp`; and the laws that bring products of naturals to one form before `omega`
pub ruleset ring = (⊖_add, ⊖_neg, ⊖_mul)

pub ruleset products = (mul-add, add-mul, mul_assoc, mul_comm, mul_left_comm, mul-zero, zero-mul)

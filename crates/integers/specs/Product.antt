-- Products of integers: their parts for `omega`, the ring's laws, and how order, sign and bounds go through them.
use Rattle.std.specs.Prelude.{◌≡◌, ℕ, zero, suc, ◌+◌, ◌*◌, ◌<◌, ◌≤◌, ℤ, pos, negsuc, ◌+ℤ◌, ◌*ℤ◌, nat_abs, ◌≤ℤ◌, ◌<ℤ◌}
use Rattle.std.proofs.Common.{ap, ◌∙◌, arith, mul-add, add-mul, mul_assoc, mul-le-mul, mul-le-mul_right, lt_of_mul-lt-mul_right, le_of_mul-le-mul_right}
use Rattle.std.proofs.Math.IntN.{*ℤ_comm}
use Rattle.integers.specs.Parts.{pos_part, neg_part, parts_add, pos_part_neg, neg_part_neg, parts_≡, parts_≤, parts_<, ≤_parts, <_parts, nat_abs_parts, pos_nonneg, zarith}

-- the parts of a product of two unknowns
pub pos_part_mul : (a b : ℤ) → pos_part (a *ℤ b) ≡ pos_part a * pos_part b + neg_part a * neg_part b
unfolding pos_part neg_part
pos_part_mul (pos a) (pos b) = omega arith
pos_part_mul (pos a) (negsuc b) = pos_part_neg (pos (a * suc b)) ∙ omega arith
pos_part_mul (negsuc a) (pos b) = pos_part_neg (pos (suc a * b)) ∙ omega arith
pos_part_mul (negsuc a) (negsuc b) = omega arith

pub neg_part_mul : (a b : ℤ) → neg_part (a *ℤ b) ≡ pos_part a * neg_part b + neg_part a * pos_part b
unfolding pos_part neg_part
neg_part_mul (pos a) (pos b) = omega arith
neg_part_mul (pos a) (negsuc b) = neg_part_neg (pos (a * suc b)) ∙ omega arith
neg_part_mul (negsuc a) (pos b) = neg_part_neg (pos (suc a * b)) ∙ omega arith
neg_part_mul (negsuc a) (negsuc b) = omega arith

-- the parts of a product by a natural: linear where that is a literal, as TR·1000h
pub pos_part_scale : (a : ℤ) (k : ℕ) → pos_part (a *ℤ pos k) ≡ pos_part a * k
unfolding pos_part neg_part
pos_part_scale a k = pos_part_mul a (pos k) ∙ omega arith

pub neg_part_scale : (a : ℤ) (k : ℕ) → neg_part (a *ℤ pos k) ≡ neg_part a * k
unfolding pos_part neg_part
neg_part_scale a k = neg_part_mul a (pos k) ∙ omega arith

-- ---- the ring's laws (addition's and `*ℤ-comm` are the kit's, lib.IntN)
times : (k x s t y u v : ℕ) → x + (s + t) ≡ y + (u + v) → k * x + (k * s + k * t) ≡ k * y + (k * u + k * v)
times k x s t y u v e = simp (← mul-add) (ap (λ (n : ℕ). k * n) e)

pub *ℤ_+ℤ : (a b c : ℤ) → a *ℤ (b +ℤ c) ≡ a *ℤ b +ℤ a *ℤ c
*ℤ_+ℤ a b c =
    let e = times (pos_part a) (pos_part (b +ℤ c)) (neg_part b) (neg_part c) (neg_part (b +ℤ c)) (pos_part b) (pos_part c) (parts_add b c) in
    let f = times (neg_part a) (pos_part (b +ℤ c)) (neg_part b) (neg_part c) (neg_part (b +ℤ c)) (pos_part b) (pos_part c) (parts_add b c) in
    omega (
      zarith,
      parts_add (a *ℤ b) (a *ℤ c),
      pos_part_mul a (b +ℤ c),
      neg_part_mul a (b +ℤ c),
      pos_part_mul a b,
      neg_part_mul a b,
      pos_part_mul a c,
      neg_part_mul a c,
    )

pub +ℤ_*ℤ : (a b c : ℤ) → (a +ℤ b) *ℤ c ≡ a *ℤ c +ℤ b *ℤ c
+ℤ_*ℤ a b c = *ℤ_comm (a +ℤ b) c ∙ *ℤ_+ℤ c a b ∙ ap (λ (x : ℤ). x +ℤ c *ℤ b) (*ℤ_comm c a) ∙ ap (λ (x : ℤ). a *ℤ c +ℤ x) (*ℤ_comm c b)

pub *ℤ_assoc : (a b c : ℤ) → a *ℤ b *ℤ c ≡ a *ℤ (b *ℤ c)
*ℤ_assoc a b c = parts_≡ (a *ℤ b *ℤ c) (a *ℤ (b *ℤ c))
    (simp (pos_part_mul, neg_part_mul, add-mul, mul-add, mul_assoc) (omega arith))

-- ---- order: a natural factor keeps it, and a positive one cancels
pub *ℤ_mono : {a b : ℤ} (k : ℕ) → a ≤ℤ b → (a *ℤ pos k) ≤ℤ (b *ℤ pos k)
*ℤ_mono {a} {b} k h =
    parts_≤ (rw (pos_part_scale a k, neg_part_scale a k, pos_part_scale b k, neg_part_scale b k) (simp (← add-mul) (mul-le-mul_right k (≤_parts h))))

pub *ℤ_cancel_< : (a b : ℤ) (k : ℕ) → (a *ℤ pos k) <ℤ (b *ℤ pos k) → a <ℤ b
*ℤ_cancel_< a b k h =
    parts_< (lt_of_mul-lt-mul_right k (simp add-mul (rw (pos_part_scale a k, neg_part_scale a k, pos_part_scale b k, neg_part_scale b k) at (<_parts h))))

pub *ℤ_cancel_≤ : (a b : ℤ) (k : ℕ) → zero < k → (a *ℤ pos k) ≤ℤ (b *ℤ pos k) → a ≤ℤ b
*ℤ_cancel_≤ a b k p h =
    parts_≤ (le_of_mul-le-mul_right (simp add-mul (rw (pos_part_scale a k, neg_part_scale a k, pos_part_scale b k, neg_part_scale b k) at (≤_parts h))) p)

-- ---- signs: a product of two that are not negative, and a square, are not negative
pub *ℤ_nonneg : (a b : ℤ) → pos 0 ≤ℤ a → pos 0 ≤ℤ b → pos 0 ≤ℤ (a *ℤ b)
*ℤ_nonneg (pos a) (pos b) h k = pos_nonneg (a * b)
*ℤ_nonneg (pos a) (negsuc b) h k = absurd k.le
*ℤ_nonneg (negsuc a) b h k = absurd h.le

pub square_nonneg : (a : ℤ) → pos 0 ≤ℤ (a *ℤ a)
square_nonneg (pos a) = pos_nonneg (a * a)
square_nonneg (negsuc a) = pos_nonneg (suc a * suc a)

-- ---- absolute values: |a b| = |a| |b|, so bounds that are the same on both sides multiply
pub nat_abs_mul : (a b : ℤ) → nat_abs (a *ℤ b) ≡ nat_abs a * nat_abs b
nat_abs_mul a b =
    nat_abs_parts (a *ℤ b)
    ∙ rw (pos_part_mul a b, neg_part_mul a b, nat_abs_parts a, nat_abs_parts b) (simp (mul-add, add-mul) (omega arith))

pub nat_abs_mul_≤ : (a b : ℤ) {m n : ℕ} → nat_abs a ≤ m → nat_abs b ≤ n → nat_abs (a *ℤ b) ≤ m * n
nat_abs_mul_≤ a b h k = rw (nat_abs_mul a b) (mul-le-mul h k)

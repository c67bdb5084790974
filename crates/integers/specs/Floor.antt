-- Division of an integer by a natural, rounded down, and its remainder. `shr_z z m` is the kit's: the q with
-- q m ≤ z < q m + m, which a shift right by k gives for m = 2^k.
use Rattle.std.specs.Prelude.{◌≡◌, ℕ, zero, suc, ◌+◌, ◌*◌, ◌-◌, ◌/◌, ◌%◌, ◌<◌, ◌≤◌, ℤ, pos, negsuc, ◌+ℤ◌, ◌-ℤ◌, ◌*ℤ◌, ◌≤ℤ◌, ◌<ℤ◌}
use Rattle.std.proofs.Common.{sym, ap, arith, add-mul, mul_assoc, mul_comm, div-mul-le_self, div-add-mod', mod-lt, suc-mul, lt_of_mul-lt-mul_right, le_of_suc-le-suc, le_antisymm, div-one}
use Rattle.std.proofs.Math.Nat.{div-div-eq-div-mul}
use Rattle.std.specs.Int.Signed.{shr_z}
use Rattle.integers.specs.Parts.{pos_part, neg_part, parts_add, parts_sub, parts_≡, parts_≤, ≤_parts, zarith}
use Rattle.integers.specs.Product.{pos_part_scale, neg_part_scale}

-- ---- the quotient

-- its two bounds, q m ≤ z and z < q m + m, for `omega`: the facts to list for each shift in the goal
pub shr_low : (z : ℤ) (m : ℕ) → zero < m → pos_part (shr_z z m) * m + neg_part z ≤ pos_part z + neg_part (shr_z z m) * m
unfolding pos_part neg_part
shr_low (pos a) m h = omega (arith, div-mul-le_self a m)
shr_low (negsuc a) m h = omega (arith, div-add-mod' a m, mod-lt a h, suc-mul (a / m) m)

pub shr_high : (z : ℤ) (m : ℕ) → zero < m → pos_part z + neg_part (shr_z z m) * m < pos_part (shr_z z m) * m + neg_part z + m
unfolding pos_part neg_part
shr_high (pos a) m h = omega (arith, div-add-mod' a m, mod-lt a h)
shr_high (negsuc a) m h = omega (arith, div-mul-le_self a m, suc-mul (a / m) m)

-- the same as orders of integers
pub shr_≤ : (z : ℤ) (m : ℕ) → zero < m → (shr_z z m *ℤ pos m) ≤ℤ z
shr_≤ z m h = omega (zarith, shr_low z m h, pos_part_scale (shr_z z m) m, neg_part_scale (shr_z z m) m)

pub shr_> : (z : ℤ) (m : ℕ) → zero < m → z <ℤ (shr_z z m *ℤ pos m +ℤ pos m)
unfolding pos_part neg_part
shr_> z m h = omega (zarith, shr_high z m h, pos_part_scale (shr_z z m) m, neg_part_scale (shr_z z m) m, parts_add (shr_z z m *ℤ pos m) (pos m))

-- of two quotients, one that fits from below is at most one that fits from above
not_above : (a b c d m : ℕ) → a * m + b * m < c * m + d * m + m → a + b ≤ c + d
not_above a b c d m h = le_of_suc-le-suc (lt_of_mul-lt-mul_right m (simp (suc-mul, add-mul) (omega arith)))

-- the quotient is the only q with these bounds: to show what a shift gives
pub shr_unique : (z q : ℤ) (m : ℕ) → zero < m → pos_part q * m + neg_part z ≤ pos_part z + neg_part q * m → pos_part z + neg_part q * m < pos_part q * m + neg_part z + m → shr_z z m ≡ q
shr_unique z q m h low high = parts_≡ (shr_z z m) q
    (le_antisymm
    (not_above (pos_part (shr_z z m)) (neg_part q) (pos_part q) (neg_part (shr_z z m)) m (omega (arith, shr_low z m h)))
    (not_above (pos_part q) (neg_part (shr_z z m)) (pos_part (shr_z z m)) (neg_part q) m (omega (arith, shr_high z m h))))

-- the quotient is monotone
pub shr_mono : {a b : ℤ} (m : ℕ) → zero < m → a ≤ℤ b → shr_z a m ≤ℤ shr_z b m
shr_mono {a} {b} m h k = parts_≤ (not_above (pos_part (shr_z a m)) (neg_part (shr_z b m)) (pos_part (shr_z b m)) (neg_part (shr_z a m)) m (omega (arith, shr_low a m h, shr_high b m h, ≤_parts k)))

-- a multiple of the divisor comes out of it whole
pub shr_scale : (z : ℤ) (m : ℕ) → zero < m → shr_z (z *ℤ pos m) m ≡ z
shr_scale z m h = shr_unique (z *ℤ pos m) z m h (omega (arith, pos_part_scale z m, neg_part_scale z m)) (omega (arith, pos_part_scale z m, neg_part_scale z m))

factored : (k a b c d : ℕ) → a + b ≡ c + d → a * k + b * k ≡ c * k + d * k
factored k a b c d e = simp (← add-mul) (ap (λ (n : ℕ). n * k) e)

-- and out of a sum with it
pub shr_add : (z k : ℤ) (m : ℕ) → zero < m → shr_z (z +ℤ k *ℤ pos m) m ≡ shr_z z m +ℤ k
shr_add z k m h =
    let q = shr_z z m in
    let y = k *ℤ pos m in
    let e = factored m (pos_part (q +ℤ k)) (neg_part q + neg_part k) (neg_part (q +ℤ k)) (pos_part q + pos_part k) (parts_add q k) in
    let f = parts_add z y in
    let u = pos_part_scale k m in
    let v = neg_part_scale k m in
    let c = add-mul (neg_part q) (neg_part k) m in
    let d = add-mul (pos_part q) (pos_part k) m in
    shr_unique (z +ℤ y) (q +ℤ k) m h (omega (arith, shr_low z m h)) (omega (arith, shr_high z m h))

-- a shift by 0 changes nothing
pub shr_one : (z : ℤ) → shr_z z 1 ≡ z
shr_one (pos a) = ap pos (div-one a)
shr_one (negsuc a) = ap negsuc (div-one a)

-- a shift by 12 and one by 4 are a shift by 16
pub shr_shr : (z : ℤ) (m n : ℕ) → shr_z (shr_z z m) n ≡ shr_z z (m * n)
shr_shr (pos a) m n = ap pos (div-div-eq-div-mul a m n)
shr_shr (negsuc a) m n = ap negsuc (div-div-eq-div-mul a m n)

-- ---- the remainder

-- z less the multiple of m at or below it: the low k bits of z, for m = 2^k
unfoldable pub mod_z : ℤ → ℕ → ℕ
mod_z (pos a) m = a % m
mod_z (negsuc a) m = m - suc (a % m)

-- it is below m
pub mod_below : (z : ℤ) (m : ℕ) → zero < m → mod_z z m < m
unfolding mod_z
mod_below (pos a) m h = mod-lt a h
mod_below (negsuc a) m h = omega arith

-- it and the quotient make z up: the fact to list for each remainder in the goal
pub mod_parts : (z : ℤ) (m : ℕ) → zero < m → pos_part z + neg_part (shr_z z m) * m ≡ pos_part (shr_z z m) * m + neg_part z + mod_z z m
unfolding pos_part neg_part mod_z
mod_parts (pos a) m h = omega (arith, div-add-mod' a m)
mod_parts (negsuc a) m h = omega (arith, div-add-mod' a m, mod-lt a h, suc-mul (a / m) m)

-- the same as an equation of integers: what code computes that subtracts the multiple
pub mod_is : (z : ℤ) (m : ℕ) → zero < m → pos (mod_z z m) ≡ z -ℤ shr_z z m *ℤ pos m
unfolding pos_part neg_part
mod_is z m h =
    omega (zarith, mod_parts z m h, parts_sub z (shr_z z m *ℤ pos m), pos_part_scale (shr_z z m) m, neg_part_scale (shr_z z m) m)

-- it is the only number below m that differs from z by a multiple of m: to show what a remainder is
pub mod_unique : (z q : ℤ) (m r : ℕ) → r < m → pos_part z + neg_part q * m ≡ pos_part q * m + neg_part z + r → mod_z z m ≡ r
mod_unique z q m r h e = omega (arith, at (shr_unique z q m (omega arith) (omega arith) (omega arith)))
  where
    at : shr_z z m ≡ q → pos_part z + neg_part q * m ≡ pos_part q * m + neg_part z + mod_z z m
    at k = rw k at (mod_parts z m (omega arith))

-- the same at a multiple that is a difference of naturals
pub mod_same : (z : ℤ) (m r a b : ℕ) → r < m → pos_part z + b * m ≡ a * m + neg_part z + r → mod_z z m ≡ r
unfolding pos_part neg_part
mod_same z m r a b h e = mod_unique z (pos a -ℤ pos b) m r h
    (omega (arith, factored m (pos_part (pos a -ℤ pos b)) b (neg_part (pos a -ℤ pos b)) a (omega (arith, parts_sub (pos a) (pos b)))))

-- the low bits of the low bits: a half of a low word is the low half of the whole number
pub mod_mod : (z : ℤ) (m n : ℕ) → zero < m → zero < m * n → mod_z z (m * n) % m ≡ mod_z z m
mod_mod z m n h k =
    let r = mod_z z (m * n) in
    let q = shr_z z (m * n) in
    sym (mod_same z m (r % m) (pos_part q * n + r / m) (neg_part q * n) (mod-lt r h)
    (omega (arith, mod_parts z (m * n) k, div-add-mod' r m, add-mul (pos_part q * n) (r / m) m, turn (pos_part q), turn (neg_part q))))
  where
    turn : (a : ℕ) → a * (m * n) ≡ a * n * m
    turn a = simp (mul_assoc) (ap (λ (x : ℕ). a * x) (mul_comm m n))

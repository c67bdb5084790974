-- Bounds on magnitudes. `Mag z n` says -n ≤ z < n, and goes through sums, products, shifts and divisions with a
-- numeral that computes, so that no overflow needs `omega`:
--     fit w64 (mag_add (mag_mul (arg w16 f) (arg w16 g)) (mag_scale 4096 tt (arg w32 h))) tt
use Rattle.std.specs.Prelude.{◌≡◌, ℕ, zero, suc, ◌+◌, ◌*◌, ◌/◌, ◌^◌, ◌<◌, ◌≤◌, ℤ, pos, negsuc, neg_ℤ, ◌+ℤ◌, ◌-ℤ◌, ◌*ℤ◌, ◌≤ℤ◌, T, leb, ltb}
use Rattle.std.proofs.Common.{mul-le-mul, mul-le-mul_right, mul-lt-mul_of_pos_right, one-mul, le_trans, div-le_self, div-lt_iff_lt-mul, arith, leb→le, ltb→lt, to_z-of_z}
use Rattle.std.specs.Int.Signed.{mag, shr_z, quot_z, rem_z, mag_rem}
use Rattle.std.specs.Int.{Width}
use mir.Val.{SFits, hbits, to_z, of_z}
use Rattle.integers.specs.Parts.{parts_add, parts_sub, Mag, zarith}

-- ---- where a bound comes from, and where it goes

-- from the range of a machine integer, and back to one; the last argument computes, `tt`
pub arg : (w : Width) {z : ℤ} → SFits w z → Mag z (2 ^ hbits w)
arg w h = record { below = h.sfits }

pub fit : (w : Width) {z : ℤ} {n : ℕ} → Mag z n → T (leb n (2 ^ hbits w)) → SFits w z
fit w {z} {n} h t = record { sfits = omega (arith, leb→le n (2 ^ hbits w) t, h.below) }

-- from what a call or a read says of its result (`.ok`, `.given`)
pub known : (z : ℤ) {n : ℕ} → mag z < n → Mag z n
known z h = record { below = h }

-- what is read back from the bits of z, where a call or a read says how large z is
pub back : (w : Width) (z : ℤ) → mag z < 2 ^ hbits w → to_z w (of_z w z) ≡ z
back w z h = to_z-of_z (record { sfits = h })

-- of a literal, and of anything that has a smaller bound
pub mag_pos : (n : ℕ) → Mag (pos n) (suc n)
mag_pos n = record { below = omega arith }

pub mag_negsuc : (n : ℕ) → Mag (negsuc n) (suc n)
mag_negsuc n = record { below = omega arith }

pub mag_le : {z : ℤ} {m n : ℕ} → Mag z m → m ≤ n → Mag z n
mag_le k h = record { below = omega (arith, k.below) }

-- of whatever lies between two that have the bound
pub mag_between : {a b : ℤ} {n : ℕ} (z : ℤ) → Mag a n → Mag b n → a ≤ℤ z → z ≤ℤ b → Mag z n
mag_between {a} {b} {n} z h k l u = omega zarith

-- ---- sums, products and shifts
pub mag_add : {a b : ℤ} {m n : ℕ} → Mag a m → Mag b n → Mag (a +ℤ b) (m + n)
mag_add {a} {b} {m} {n} h k = omega (zarith, parts_add a b)

pub mag_sub : {a b : ℤ} {m n : ℕ} → Mag a m → Mag b n → Mag (a -ℤ b) (m + n)
mag_sub {a} {b} {m} {n} h k = omega (zarith, parts_sub a b)

neg_≤ : (n : ℕ) → mag (neg_ℤ (pos n)) ≤ n
neg_≤ zero = omega arith
neg_≤ (suc n) = omega arith

mul_≤ : (a b : ℤ) (m n : ℕ) → mag a < m → mag b < n → mag (a *ℤ b) ≤ m * n
mul_≤ (pos a) (pos b) m n h k = mul-le-mul (omega arith) (omega arith)
mul_≤ (pos a) (negsuc b) m n h k = le_trans (neg_≤ (a * suc b)) (mul-le-mul (omega arith) k)
mul_≤ (negsuc a) (pos b) m n h k = le_trans (neg_≤ (suc a * b)) (mul-le-mul h (omega arith))
mul_≤ (negsuc a) (negsuc b) m n h k = mul-le-mul h k

-- one more than the product of the bounds, since (-m) (-n) is m n itself
pub mag_mul : {a b : ℤ} {m n : ℕ} → Mag a m → Mag b n → Mag (a *ℤ b) (suc (m * n))
mag_mul {a} {b} {m} {n} h k = record { below = omega (arith, mul_≤ a b m n h.below k.below) }

neg_below : (x y : ℕ) → x ≤ y → zero < y → mag (neg_ℤ (pos x)) < y
neg_below zero y h k = k
neg_below (suc x) y h k = h

scale_below : (a : ℤ) (k m : ℕ) → zero < k → mag a < m → mag (a *ℤ pos k) < m * k
scale_below (pos a) k m z h = mul-lt-mul_of_pos_right h z
scale_below (negsuc a) k m z h = neg_below (suc a * k) (m * k) (mul-le-mul_right k h) (omega (arith, mul-le-mul_right k h, mul-le-mul_right k (one_le a), one-mul k))
  where
    one_le : (a : ℕ) → 1 ≤ suc a
    one_le a = omega arith

-- a product by a literal keeps the sharp bound
pub mag_scale : (k : ℕ) {a : ℤ} {m : ℕ} → T (ltb 0 k) → Mag a m → Mag (a *ℤ pos k) (m * k)
mag_scale k {a} {m} t h = record { below = scale_below a k m (ltb→lt 0 k t) h.below }

shr_≤_mag : (a : ℤ) (m : ℕ) → mag (shr_z a m) ≤ mag a
shr_≤_mag (pos a) m = div-le_self a m
shr_≤_mag (negsuc a) m = div-le_self a m

-- a shift keeps the bound
pub mag_shr : {a : ℤ} {m : ℕ} (k : ℕ) → Mag a m → Mag (shr_z a k) m
mag_shr {a} k h = record { below = omega (arith, shr_≤_mag a k, h.below) }

shr_< : (a : ℤ) (k m : ℕ) → zero < k → mag a < m * k → mag (shr_z a k) < m
shr_< (pos a) k m z h = (div-lt_iff_lt-mul z).1 h
shr_< (negsuc a) k m z h = (div-lt_iff_lt-mul z).1 h

-- and divides one that is a multiple: a 44-bit number shifted by 12 has 32 bits
pub mag_shr_div : {a : ℤ} (k m : ℕ) → T (ltb 0 k) → Mag a (m * k) → Mag (shr_z a k) m
mag_shr_div {a} k m t h = record { below = shr_< a k m (ltb→lt 0 k t) h.below }

-- ---- division toward zero, for DIV
neg_within : (x y : ℕ) → x ≤ y → mag (neg_ℤ (pos x)) ≤ y
neg_within x y h = omega (arith, neg_≤ x)

quot_below : (a b : ℤ) (m : ℕ) → mag a < m → mag (quot_z a b) < suc m
quot_below (pos a) (pos b) m h = omega (arith, div-le_self a b)
quot_below (pos a) (negsuc b) m h = omega (arith, neg_within (a / suc b) a (div-le_self a (suc b)))
quot_below (negsuc a) (pos b) m h = omega (arith, neg_within (suc a / b) (suc a) (div-le_self (suc a) b))
quot_below (negsuc a) (negsuc b) m h = omega (arith, div-le_self (suc a) (suc b))

-- one more than the dividend's bound: -2^31 / -1 is 2^31
pub mag_quot : {a : ℤ} {m : ℕ} (b : ℤ) → Mag a m → Mag (quot_z a b) (suc m)
mag_quot {a} {m} b h = record { below = quot_below a b m h.below }

pub mag_remainder : {a : ℤ} {m : ℕ} (b : ℤ) → Mag a m → Mag (rem_z a b) m
mag_remainder {a} b h = record { below = omega (arith, mag_rem a b, h.below) }

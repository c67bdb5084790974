-- Leading bits: the count of the definition is the kit's count of leading zeros, of the number or of its complement.
use mathlib.Core.Path.{◌≡◌, refl, sym, ap, ◌∙◌}
use Prim.Native.Nat.{ℕ, zero, suc, ◌+◌, ◌*◌, ◌-◌, ◌/◌, ◌%◌, ◌^◌, ◌<◌, ◌≤◌}
use native.Mathlib.Omega.{arith}
use native.Mathlib.Nat.{pow-suc, mul_comm, suc-add, zero-add, mod-lt, div-eq_of_lt}
use native.Mathlib.Decide.{dec_lt}
use lib.Dec.{eqb, lit<}
use lib.Arith.{digits_div, mod-mul}
use lib.Pow.{pow_pos}
use lib.Count.{count_leading_zeros, leading_unique}
use Rattle.gte_registers.specs.Registers.{leading_from, leading}

-- ---- zeros

-- the length m of x in bits, and the zeros above it
length_of : (n x : ℕ) → x < 2 ^ n → (m : ℕ) × (leading_from n 0 x + m ≡ n) × (x < 2 ^ m) × (2 ^ m ≤ 2 * x + 1)
unfolding leading_from
length_of zero x h = (zero, refl, h, omega arith)
length_of (suc n) x h = go (dec_lt x (2 ^ n)) (λ l. length_of n x l)
  where
    top : (x p : ℕ) → p ≤ x → x < p * 2 → x / p ≡ 1
    top x p l u = ap (λ (y : ℕ). y / p) (apart x p l) ∙ digits_div 1 {m = p} {r = x - p} (omega arith)
      where
        apart : (x p : ℕ) → p ≤ x → x ≡ 1 * p + (x - p)
        apart x p l = omega arith

    go : Dec (x < 2 ^ n)
        → (x < 2 ^ n → (m : ℕ) × (leading_from n 0 x + m ≡ n) × (x < 2 ^ m) × (2 ^ m ≤ 2 * x + 1))
        → (m : ℕ) × (leading_from (suc n) 0 x + m ≡ suc n) × (x < 2 ^ m) × (2 ^ m ≤ 2 * x + 1)
    go (yes l) f = let r = f l in (r.0, rw (div-eq_of_lt {n = x} {m = 2 ^ n} l) (suc-add (leading_from n 0 x) r.0 ∙ ap suc r.1), r.2, r.3)
    go (no l) f = (suc n, rw (top x (2 ^ n) (omega arith) (omega (arith, pow-suc 2 n))) (zero-add (suc n)), h, omega (arith, pow-suc 2 n))

pub zeros : (n x : ℕ) → x < 2 ^ n → leading_from n 0 x ≡ count_leading_zeros n x
zeros n x h = let r = length_of n x h in leading_unique n x (leading_from n 0 x) r.0 r.1 r.2 r.3

-- ---- ones: the top bits of a number and of its complement are opposite, and what is left is a complement again
opposite : (u v r s p : ℕ) → u < 2 → v < 2 → r < p → s < p → u * p + r + (v * p + s) + 1 ≡ p * 2 → (r + s + 1 ≡ p) × (eqb u 1 ≡ eqb v 0)
opposite zero zero r s p h k a b e = let z : ⊥ = omega arith in absurd z
opposite zero (suc zero) r s p h k a b e = (omega arith, refl)
opposite (suc zero) zero r s p h k a b e = (omega arith, refl)
opposite (suc zero) (suc zero) r s p h k a b e = let z : ⊥ = omega arith in absurd z
opposite (suc (suc u)) v r s p h k a b e = let z : ⊥ = omega arith in absurd z
opposite zero (suc (suc v)) r s p h k a b e = let z : ⊥ = omega arith in absurd z
opposite (suc zero) (suc (suc v)) r s p h k a b e = let z : ⊥ = omega arith in absurd z

top_bit : (n x : ℕ) → x % 2 ^ suc n ≡ x / 2 ^ n % 2 * 2 ^ n + x % 2 ^ n
top_bit n x = ap (λ (p : ℕ). x % p) (pow-suc 2 n ∙ mul_comm (2 ^ n) 2) ∙ mod-mul x {m = 2} {c = 2 ^ n} (lit< tt) (pow_pos n)

pub ones : (n x y : ℕ) → x % 2 ^ n + y % 2 ^ n + 1 ≡ 2 ^ n → leading_from n 1 x ≡ leading_from n 0 y
unfolding leading_from
ones zero x y h = refl
ones (suc n) x y h =
    let o = opposite (x / 2 ^ n % 2) (y / 2 ^ n % 2) (x % 2 ^ n) (y % 2 ^ n) (2 ^ n) (omega arith) (omega arith) (mod-lt x (pow_pos n)) (mod-lt y (pow_pos n))
    (rw (top_bit n x, top_bit n y, pow-suc 2 n) at h) in
    rw (o.1, ones n x y o.0)

-- ---- of a word
pub leading_low : (x : ℕ) → x < 0x8000_0000 → count_leading_zeros 32 x ≡ leading x
unfolding leading
leading_low x h = rw (div-eq_of_lt {n = x} {m = 2 ^ 31} h) (sym (zeros 32 x (omega arith)))

pub leading_high : (x : ℕ) → 0x8000_0000 ≤ x → x < 2 ^ 32 → count_leading_zeros 32 (0xffff_ffff - x) ≡ leading x
unfolding leading
leading_high x h k = rw (one x h k) (sym (ones 32 x (0xffff_ffff - x) (omega arith) ∙ zeros 32 (0xffff_ffff - x) (omega arith)))
  where
    one : (x : ℕ) → 0x8000_0000 ≤ x → x < 2 ^ 32 → x / 2 ^ 31 ≡ 1
    one x h k = omega arith

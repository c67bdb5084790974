-- A number of 16 bits, shifted left by its leading zeros.
use mathlib.Core.Path.{◌≡◌, subst}
use Prim.Native.Nat.{ℕ, zero, suc, ◌+◌, ◌*◌, ◌-◌, ◌^◌, ◌≤◌, ◌<◌}
use native.Mathlib.Nat.{le_trans, le_of_eq, mul-le-mul_right}
use native.Mathlib.Omega.{arith}
use lib.Pow.{pow-add, shl_lt}
use lib.Count.{count_leading_zeros, leading_top, leading_length, leading_unique}

-- its top bit is then bit 15
pub normal : (n : ℕ) → zero < n → n < 2 ^ 16 → (2 ^ 15 ≤ n * 2 ^ count_leading_zeros 16 n) × (n * 2 ^ count_leading_zeros 16 n < 2 ^ 16)
normal n p h =
    let top = leading_top 16 n p h in
    shifted top.0 (count_leading_zeros 16 n) top.1 top.2 top.3
  where
    shifted : (k z : ℕ) → z + suc k ≡ 16 → 2 ^ k ≤ n → n < 2 ^ suc k → (2 ^ 15 ≤ n * 2 ^ z) × (n * 2 ^ z < 2 ^ 16)
    shifted k z e lo hi =
        let f : k + z ≡ 15 = omega arith in
        let g : suc k + z ≡ 16 = omega arith in (
          subst (λ (x : ℕ). 2 ^ x ≤ n * 2 ^ z) f (le_trans (le_of_eq (pow-add 2 k z)) (mul-le-mul_right (2 ^ z) lo)),
          subst (λ (x : ℕ). n * 2 ^ z < 2 ^ x) g (shl_lt {a = n} (suc k) z hi),
        )

-- its leading zeros among 32 bits are 16 more
pub counted_in_32 : (n : ℕ) → n < 2 ^ 16 → count_leading_zeros 16 n + 16 ≡ count_leading_zeros 32 n
counted_in_32 n h =
    let t = leading_length 16 n h in
    let e = t.1 in
    leading_unique 32 n (count_leading_zeros 16 n + 16) t.0 (omega arith) t.2 t.3

pub zeros_16 : (n : ℕ) → n < 2 ^ 16 → count_leading_zeros 32 n - 16 ≡ count_leading_zeros 16 n
zeros_16 n h = omega (arith, counted_in_32 n h)

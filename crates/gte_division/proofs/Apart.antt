-- How far the hardware's quotient lies from the printed one, and from H·65,536/SZ3 itself.
use mathlib.Core.Bool.{Bool, ◌&&◌}
use mathlib.Core.Path.{◌≡◌, refl}
use Prim.Native.Nat.{ℕ, zero, ◌+◌, ◌*◌, ◌/◌, ◌^◌, ◌≤◌, ◌<◌, min}
use native.Mathlib.Decide.{dec_lt}
use native.Mathlib.Nat.{mul_assoc, mul_comm, mul_left_comm, add-mul, mul-le-mul_right, mul-le-mul_left, div-mul-le_self, div-add-mod', mod-lt}
use native.Mathlib.Omega.{arith}
use lib.Count.{count_leading_zeros}
use lib.Dec.{T, leb, leb→le}
use Rattle.tables.specs.Every.{every, at, and_left, and_right}
use Rattle.gte_division.specs.Division.{entry_of, refined, quotient, printed, Apart, Differ}
use Rattle.gte_division.proofs.Normal.{normal}

-- ---- the refined divisor: one test over all 32,768 divisors whose top bit is bit 15. Both ends are reached.
abbrev inverse : ℕ → Bool
inverse d = leb (2 ^ 32) (d * refined d + 85525) && leb (d * refined d) (2 ^ 32 + 63032)

all_inverse : T (every inverse 0x8000 0x8000)
unfolding refined entry_of
all_inverse = tt

refined_near : (d : ℕ) → 2 ^ 15 ≤ d → d < 2 ^ 16 → (2 ^ 32 ≤ d * refined d + 85525) × (d * refined d ≤ 2 ^ 32 + 63032)
refined_near d l h =
    let t = at inverse 0x8000 0x8000 all_inverse d l h in
    let low = leb (2 ^ 32) (d * refined d + 85525) in
    let high = leb (d * refined d) (2 ^ 32 + 63032) in
    (leb→le _ _ (and_left low high t), leb→le _ _ (and_right low high t))

-- ---- the quotient before it is cut, times SZ3. p is the power of two of the shift, r the refined divisor.
module _ (h sz p r : ℕ) (low : 2 ^ 32 ≤ sz * p * r + 85525) (high : sz * p * r ≤ 2 ^ 32 + 63032) (less : h < 2 * sz) where
  abbrev q : ℕ
  q = (h * p * r + 0x8000) / 0x1_0000

  -- the shift goes from the numerator to the divisor
  crossed : h * p * r * sz ≡ h * (sz * p * r)
  crossed = simp (mul_assoc, mul_comm, mul_left_comm)

  down : 0x1_0000 * q ≤ h * p * r + 0x8000
  down = omega arith

  up : h * p * r ≤ 0x1_0000 * q + 0x7fff
  up = omega arith

  above : 0x1_0000 * (q * sz) ≤ 2 ^ 32 * h + 158832 * sz
  above = omega (arith, mul-le-mul_right sz down, mul_assoc 0x1_0000 q sz, add-mul (h * p * r) 0x8000 sz, crossed, mul-le-mul_left h high, mul_comm h (2 ^ 32 + 63032))

  below : 2 ^ 32 * h ≤ 0x1_0000 * (q * sz) + 203817 * sz
  below = omega (arith, mul-le-mul_right sz up, mul_assoc 0x1_0000 q sz, add-mul (0x1_0000 * q) 0x7fff sz, crossed, mul-le-mul_left h low)

-- ---- the printed formula, times SZ3
pub printed_above : (h sz : ℕ) → 2 * (printed h sz * sz) ≤ 131072 * h + sz
unfolding printed
printed_above h sz =
    let n = h * 131072 / sz in
    let q = (n + 1) / 2 in
    omega (arith, mul-le-mul_right sz (two n), div-mul-le_self (h * 131072) sz, add-mul n 1 sz, mul_assoc 2 q sz)
  where
    two : (n : ℕ) → 2 * ((n + 1) / 2) ≤ n + 1
    two n = omega arith

pub printed_below : (h sz : ℕ) → zero < sz → 131072 * h ≤ 2 * (printed h sz * sz) + sz
unfolding printed
printed_below h sz p =
    let n = h * 131072 / sz in
    let q = (n + 1) / 2 in
    omega (arith, mul-le-mul_right sz (two n), div-add-mod' (h * 131072) sz, mod-lt (h * 131072) p, mul_assoc 2 q sz)
  where
    two : (n : ℕ) → n ≤ 2 * ((n + 1) / 2)
    two n = omega arith

-- below 2·SZ3 it is at most 1FFFFh, so it needs no cut
printed_fits : (h sz : ℕ) → sz < 65536 → h < 2 * sz → printed h sz ≤ 0x1ffff
printed_fits h sz k l = go (dec_lt 0x1ffff (printed h sz))
  where
    go : Dec (0x1ffff < printed h sz) → printed h sz ≤ 0x1ffff
    go (yes p) = let m : 0x20000 ≤ printed h sz = omega arith in let e : ⊥ = omega (arith, printed_above h sz, mul-le-mul_right sz m) in absurd e
    go (no p) = omega arith

-- ---- both together. x is the hardware's before the cut, y the printed one.
module _ (h sz x y : ℕ) (some : zero < sz)
    (x-above : 0x1_0000 * (x * sz) ≤ 2 ^ 32 * h + 158832 * sz)
    (x_below : 2 ^ 32 * h ≤ 0x1_0000 * (x * sz) + 203817 * sz)
    (y-above : 2 * (y * sz) ≤ 131072 * h + sz)
    (y-below : 131072 * h ≤ 2 * (y * sz) + sz)
  where
    two_over : x ≤ y + 2
    two_over = go (dec_lt (y + 2) x)
      where
        go : Dec (y + 2 < x) → x ≤ y + 2
        go (yes p) = let m : y + 3 ≤ x = omega arith in let e : ⊥ = omega (arith, mul-le-mul_right sz m, add-mul y 3 sz) in absurd e
        go (no p) = omega arith

    three_under : y ≤ x + 3
    three_under = go (dec_lt (x + 3) y)
      where
        go : Dec (x + 3 < y) → y ≤ x + 3
        go (yes p) = let m : x + 4 ≤ y = omega arith in let e : ⊥ = omega (arith, mul-le-mul_right sz m, add-mul x 4 sz) in absurd e
        go (no p) = omega arith

-- ---- the law
module _ (h sz : ℕ) (k : sz < 65536) (less : h < 2 * sz) where
  some : zero < sz
  some = omega arith

  near : (2 ^ 32 ≤ sz * 2 ^ count_leading_zeros 16 sz * refined (sz * 2 ^ count_leading_zeros 16 sz) + 85525) × (sz * 2 ^ count_leading_zeros 16 sz * refined (sz * 2 ^ count_leading_zeros 16 sz) ≤ 2 ^ 32 + 63032)
  near = let t = normal sz some k in refined_near (sz * 2 ^ count_leading_zeros 16 sz) t.0 t.1

  abbrev raw : ℕ
  raw = (h * 2 ^ count_leading_zeros 16 sz * refined (sz * 2 ^ count_leading_zeros 16 sz) + 0x8000) / 0x1_0000

  raw_above : 0x1_0000 * (raw * sz) ≤ 2 ^ 32 * h + 158832 * sz
  raw_above = above h sz (2 ^ count_leading_zeros 16 sz) (refined (sz * 2 ^ count_leading_zeros 16 sz)) near.0 near.1 less

  raw_below : 2 ^ 32 * h ≤ 0x1_0000 * (raw * sz) + 203817 * sz
  raw_below = below h sz (2 ^ count_leading_zeros 16 sz) (refined (sz * 2 ^ count_leading_zeros 16 sz)) near.0 near.1 less

  -- the cut keeps both
  cut_under : (x y : ℕ) → y ≤ x + 3 → y ≤ 0x1ffff → y ≤ min 0x1ffff x + 3
  cut_under x y l f = omega arith

  cut_over : (x y : ℕ) → x ≤ y + 2 → min 0x1ffff x ≤ y + 2
  cut_over x y l = omega arith

  both : (printed h sz ≤ quotient h sz + 3) × (quotient h sz ≤ printed h sz + 2)
  unfolding quotient
  both =
      let a = printed_above h sz in
      let b = printed_below h sz some in (
        cut_under raw (printed h sz) (three_under h sz raw (printed h sz) some raw_above raw_below a b) (printed_fits h sz k less),
        cut_over raw (printed h sz) (two_over h sz raw (printed h sz) some raw_above raw_below a b),
      )

-- a wider range holds too
wider : {a b : ℕ} (c d : ℕ) → a ≤ c → b ≤ d → Apart a b → Apart c d
wider c d l m f h sz k less = let e = f h sz k less in (omega (arith, e.0), omega (arith, e.1))

pub differ : Differ
unfolding quotient printed refined entry_of count_leading_zeros
differ = record { four = wider 4 4 (omega arith) (omega arith) both; exact = both; lowest = refl; highest = refl }

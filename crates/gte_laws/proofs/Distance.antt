-- How far a projected coordinate lies from the exact quotient, whatever the division's error is: with the doubled quotient
-- within c of 131,072·H/Z, the bound is 16,384·c + 65,536 (c = 1: 81,920; c = 9: 212,992).
use mathlib.Core.Path.{◌≡◌}
use Prim.Native.Nat.{ℕ, ◌+◌, ◌*◌, ◌≤◌, ◌<◌}
use native.Mathlib.Omega.{arith}
use native.Mathlib.Nat.{mul_assoc, add-mul, mul-le-mul_right}
use lib.Dec.{lit<}
use lib.IntN.{ℤ, pos, nat_abs, ◌+ℤ◌, ◌-ℤ◌, ◌*ℤ◌}
use lib.Signed.{◌≤ℤ◌, shr_z}
use Rattle.integers.specs.Parts.{pos_part, neg_part, zarith, parts_add, parts_sub, nat_abs_gap}
use Rattle.integers.specs.Product.{pos_part_scale, neg_part_scale, *ℤ_mono, nat_abs_mul_≤}
use Rattle.integers.specs.Ring.{whole, lit, ring, products, ⊖_≡}
use Rattle.integers.specs.Floor.{shr_≤, shr_>}
use Rattle.gte_division.specs.Division.{quotient, printed}
use Rattle.gte_division.proofs.Apart.{printed_above, printed_below, differ}
use Rattle.gte_laws.specs.Demand.{Close}

-- twice the distance D, from the quotient's error e = 2·q·Z - 131,072·H and the part f that the floor drops
identity : (z q h x o s : ℤ)
    → (z *ℤ (pos 65536 *ℤ s -ℤ o) -ℤ pos 65536 *ℤ h *ℤ x) *ℤ pos 2 ≡ x *ℤ (q *ℤ z *ℤ pos 2 -ℤ h *ℤ pos 131072) -ℤ (q *ℤ x +ℤ o -ℤ s *ℤ pos 65536) *ℤ z *ℤ pos 2
identity z q h x o s = rw (whole z, whole q, whole h, whole x, whole o, whole s, lit 2, lit 65536, lit 131072) (simp ring (⊖_≡ _ _ _ _ (simp products (omega arith))))

bounded : (c z : ℕ) (x e f d : ℤ) → nat_abs x ≤ 32768 → nat_abs e ≤ c * z → pos 0 ≤ℤ f → f ≤ℤ pos 65535
    → d *ℤ pos 2 ≡ x *ℤ e -ℤ f *ℤ pos z *ℤ pos 2 → nat_abs d ≤ (16384 * c + 65536) * z
unfolding pos_part neg_part
bounded c z x e f d sx se fl fh k =
    let a = nat_abs_mul_≤ x e sx se in
    let l = *ℤ_mono z fl in
    let u = *ℤ_mono z fh in
    let y = f *ℤ pos z in
    let m = x *ℤ e in
    omega (zarith, nat_abs_gap d, nat_abs_gap m, pos_part_scale d 2, neg_part_scale d 2, pos_part_scale y 2, neg_part_scale y 2, parts_sub m (y *ℤ pos 2), add-mul (16384 * c) 65536 z, mul_assoc 16384 c z)

module _ (m : ℤ) where
  dropped_low : pos 0 ≤ℤ (m -ℤ shr_z m 65536 *ℤ pos 65536)
  unfolding pos_part neg_part
  dropped_low = let l = shr_≤ m 65536 (lit< tt) in omega (zarith, parts_sub m (shr_z m 65536 *ℤ pos 65536))

  dropped_high : (m -ℤ shr_z m 65536 *ℤ pos 65536) ≤ℤ pos 65535
  unfolding pos_part neg_part
  dropped_high = let h = shr_> m 65536 (lit< tt) in omega (zarith, parts_sub m (shr_z m 65536 *ℤ pos 65536), parts_add (shr_z m 65536 *ℤ pos 65536) (pos 65536))

-- the coordinate is the floor of (q·X + O) / 65,536
pub close : (c z q h : ℕ) (x o : ℤ) → nat_abs x ≤ 32768 → nat_abs (pos q *ℤ pos z *ℤ pos 2 -ℤ pos h *ℤ pos 131072) ≤ c * z
    → Close (16384 * c + 65536) h (pos z) x o (shr_z (pos q *ℤ x +ℤ o) 65536)
close c z q h x o sx se =
    let m = pos q *ℤ x +ℤ o in
    let s = shr_z m 65536 in
    let e = pos q *ℤ pos z *ℤ pos 2 -ℤ pos h *ℤ pos 131072 in
    let f = m -ℤ s *ℤ pos 65536 in
    let d = pos z *ℤ (pos 65536 *ℤ s -ℤ o) -ℤ pos 65536 *ℤ pos h *ℤ x in
    bounded c z x e f d sx se (dropped_low m) (dropped_high m) (identity (pos z) (pos q) (pos h) x o s)

-- the hardware's division: the printed formula has c = 1, and the two are at most 4 apart, so c = 9
module _ (h z : ℕ) (k : z < 65536) (less : h < 2 * z) where
  apart : (printed h z ≤ quotient h z + 4) × (quotient h z ≤ printed h z + 4)
  apart = differ.four h z k less

  quotient_above : 2 * (quotient h z * z) ≤ 131072 * h + 9 * z
  quotient_above = omega (arith, mul-le-mul_right z apart.1, add-mul (printed h z) 4 z, printed_above h z)

  quotient_below : 131072 * h ≤ 2 * (quotient h z * z) + 9 * z
  quotient_below = omega (arith, mul-le-mul_right z apart.0, add-mul (quotient h z) 4 z, printed_below h z (omega arith))

  pub quotient_error : nat_abs (pos (quotient h z) *ℤ pos z *ℤ pos 2 -ℤ pos h *ℤ pos 131072) ≤ 9 * z
  unfolding pos_part neg_part
  quotient_error =
      omega (zarith, quotient_above, quotient_below, nat_abs_gap (pos (quotient h z) *ℤ pos z *ℤ pos 2 -ℤ pos h *ℤ pos 131072), parts_sub (pos (quotient h z) *ℤ pos z *ℤ pos 2) (pos h *ℤ pos 131072))

-- Demand 3 for one part: where no counted bit is set, the stored values are the exact ones, and the distance is the law's.
use mathlib.Core.Path.{◌≡◌, refl, ap, ◌∙◌, subst}
use mathlib.Core.Bool.{true, false}
use Prim.Native.Nat.{ℕ, ◌+◌, ◌-◌, ◌*◌, ◌/◌, ◌%◌, ◌^◌, ◌≤◌, ◌<◌}
use native.Mathlib.Omega.{arith}
use lib.Dec.{leb}
use borrow.Author.Tests.{leb-false}
use lib.IntN.{ℤ, pos, negsuc, nat_abs}
use lib.Signed.{◌≤ℤ◌, lt_z, shr_z, pos-nat_abs, yes_non_neg}
use mir.Syntax.{w16}
use mir.Val.{SFits, to_z, of_z}
use mir.Facts.{to_z-of_z, Fits-of_z}
use Rattle.integers.specs.Parts.{pos_part, neg_part, zarith, Mag, nat_abs_gap, nat_abs_within}
use Rattle.integers.specs.Bound.{mag_shr_div}
use Rattle.integers.specs.Wrap.{wrap_fits}
use Rattle.integers.specs.Clamp.{outside, inside, clamp_clear}
use Rattle.words.specs.Words.{low_signed, high_half}
use Rattle.gte_arithmetic.specs.Checks.{some, counted}
use Rattle.gte_arithmetic.specs.Values.{mac_of, ir_of, depth_of, screen_of}
use Rattle.gte_division.specs.Division.{quotient, ratio_of}
use Rattle.gte_arithmetic.specs.Triples.{Wide}
use Rattle.gte_arithmetic.proofs.Flags.{fst}
use Rattle.gte_perspective.specs.Projection.{far_of, vertex_checks, vertex_of}
use Rattle.gte_perspective.specs.Perspective.{exact_of, pair_of, screen_checks, on_screen}
use Rattle.gte_arithmetic.specs.declared.values.Camera.{Camera}
use Rattle.gte_laws.specs.Demand.{tolerance, Close}
use Rattle.gte_laws.proofs.Distance.{close, quotient_error}

-- ---- what a clear bit says of its value

-- a sum of 44 bits is not wrapped
module _ (a : ℤ) (hi : lt_z (pos (2 ^ 43 - 1)) a ≡ false) (lo : lt_z a (negsuc (2 ^ 43 - 1)) ≡ false) where
  in_44 : Mag a (2 ^ 43)
  unfolding pos_part neg_part
  in_44 = omega zarith

  far_is : far_of a ≡ shr_z a 4096
  unfolding far_of
  far_is = rw (wrap_fits (2 ^ 43) in_44)

  mac_is : mac_of true a ≡ shr_z a 4096
  unfolding mac_of
  mac_is = rw (wrap_fits (2 ^ 43) in_44) (wrap_fits (2 ^ 31) (mag_shr_div 4096 (2 ^ 31) tt in_44))

short_abs : (z : ℤ) → outside (negsuc 0x7fff) (pos 0x7fff) z ≡ false → nat_abs z ≤ 32768
unfolding pos_part neg_part
short_abs z e = let k = inside (negsuc 0x7fff) (pos 0x7fff) z e in nat_abs_within 32768 z k.0 (omega zarith)

natural : (z : ℤ) → outside (pos 0) (pos 0xffff) z ≡ false → pos (nat_abs z) ≡ z
natural z e = let k = inside (pos 0) (pos 0xffff) z e in pos-nat_abs z (yes_non_neg k.0)

point_fits : (z : ℤ) → outside (negsuc 0x3ff) (pos 0x3ff) z ≡ false → SFits w16 z
unfolding pos_part neg_part
point_fits z e = let k = inside (negsuc 0x3ff) (pos 0x3ff) z e in omega zarith

-- ---- the two halves of the word
low_back : (x y : ℤ) → SFits w16 x → SFits w16 y → low_signed w16 (pair_of x y) ≡ x
unfolding pair_of
low_back x y f g = ap (to_z w16) (cut (of_z w16 x) (of_z w16 y) (Fits-of_z f).fits) ∙ to_z-of_z f
  where
    cut : (a b : ℕ) → a < 65536 → (a + b * 65536) % 65536 ≡ a
    cut a b h = omega arith

high_back : (x y : ℤ) → SFits w16 x → SFits w16 y → high_half (pair_of x y) ≡ y
unfolding pair_of
high_back x y f g = ap (to_z w16) (cut (of_z w16 x) (of_z w16 y) (Fits-of_z f).fits) ∙ to_z-of_z g
  where
    cut : (a b : ℕ) → a < 65536 → (a + b * 65536) / 65536 ≡ b
    cut a b h = omega arith

-- ---- one part
pub record NearPart (bound : ℕ) (s : Wide) (k : Camera) (xy : ℕ) : Type 0 where
  pub ahead : pos 1 ≤ℤ shr_z s.z 4096
  pub across : Close bound k.h (shr_z s.z 4096) (shr_z s.x 4096) k.ofx (low_signed w16 xy)
  pub along : Close bound k.h (shr_z s.z 4096) (shr_z s.y 4096) k.ofy (high_half xy)

module _ (s : Wide) (k : Camera) (clear : (b : ℕ) → counted / 2 ^ b % 2 ≡ 1 → some b (vertex_checks true s k) ≡ false) where
  mac_x : mac_of true s.x ≡ shr_z s.x 4096
  unfolding vertex_checks screen_checks
  mac_x = mac_is s.x (fst (lt_z (pos (2 ^ 43 - 1)) s.x) false (clear 30 refl)) (fst (lt_z s.x (negsuc (2 ^ 43 - 1))) false (clear 27 refl))

  mac_y : mac_of true s.y ≡ shr_z s.y 4096
  unfolding vertex_checks screen_checks
  mac_y = mac_is s.y (fst (lt_z (pos (2 ^ 43 - 1)) s.y) false (clear 29 refl)) (fst (lt_z s.y (negsuc (2 ^ 43 - 1))) false (clear 26 refl))

  far_z : far_of s.z ≡ shr_z s.z 4096
  unfolding vertex_checks screen_checks
  far_z = far_is s.z (fst (lt_z (pos (2 ^ 43 - 1)) s.z) false (clear 28 refl)) (fst (lt_z s.z (negsuc (2 ^ 43 - 1))) false (clear 25 refl))

  in_x : outside (negsuc 0x7fff) (pos 0x7fff) (shr_z s.x 4096) ≡ false
  unfolding vertex_checks screen_checks
  in_x = rw mac_x at (fst (outside (negsuc 0x7fff) (pos 0x7fff) (mac_of true s.x)) false (clear 24 refl))

  in_y : outside (negsuc 0x7fff) (pos 0x7fff) (shr_z s.y 4096) ≡ false
  unfolding vertex_checks screen_checks
  in_y = rw mac_y at (fst (outside (negsuc 0x7fff) (pos 0x7fff) (mac_of true s.y)) false (clear 23 refl))

  in_z : outside (pos 0) (pos 0xffff) (shr_z s.z 4096) ≡ false
  unfolding vertex_checks screen_checks
  in_z = rw far_z at (fst (outside (pos 0) (pos 0xffff) (far_of s.z)) false (clear 18 refl))

  ir_x : ir_of false (mac_of true s.x) ≡ shr_z s.x 4096
  unfolding ir_of
  ir_x = rw mac_x (clamp_clear (negsuc 0x7fff) (pos 0x7fff) (shr_z s.x 4096) in_x)

  ir_y : ir_of false (mac_of true s.y) ≡ shr_z s.y 4096
  unfolding ir_of
  ir_y = rw mac_y (clamp_clear (negsuc 0x7fff) (pos 0x7fff) (shr_z s.y 4096) in_y)

  depth_z : depth_of (far_of s.z) ≡ nat_abs (shr_z s.z 4096)
  unfolding depth_of
  depth_z = rw far_z (ap nat_abs (clamp_clear (pos 0) (pos 0xffff) (shr_z s.z 4096) in_z))

  divides : leb (2 * nat_abs (shr_z s.z 4096)) k.h ≡ false
  unfolding vertex_checks screen_checks
  divides = rw depth_z at (fst (leb (2 * depth_of (far_of s.z)) k.h) false (clear 17 refl))

  -- SZ3 has 16 bits, and H is less than twice as large
  short : nat_abs (shr_z s.z 4096) < 65536
  unfolding pos_part neg_part
  short = let b = inside (pos 0) (pos 0xffff) (shr_z s.z 4096) in_z in omega (zarith, nat_abs_gap (shr_z s.z 4096))

  below : k.h < 2 * nat_abs (shr_z s.z 4096)
  below = let h = divides in omega (arith, leb-false)

  positive : 0 < nat_abs (shr_z s.z 4096)
  positive = let h = below in omega arith

  ratio_is : ratio_of k.h (nat_abs (shr_z s.z 4096)) ≡ quotient k.h (nat_abs (shr_z s.z 4096))
  unfolding ratio_of
  ratio_is = rw divides

  -- the exact screen coordinate of a coordinate and its offset
  abbrev on : ℤ → ℤ → ℤ
  on x o = shr_z (exact_of (quotient k.h (nat_abs (shr_z s.z 4096))) x o) 65536

  screen_x : outside (negsuc 0x3ff) (pos 0x3ff) (on (shr_z s.x 4096) k.ofx) ≡ false
  unfolding vertex_checks screen_checks
  screen_x =
      let x = shr_z (exact_of (ratio_of k.h (depth_of (far_of s.z))) (ir_of false (mac_of true s.x)) k.ofx) 65536 in
      rw (depth_z, ratio_is, ir_x) at (fst (outside (negsuc 0x3ff) (pos 0x3ff) x) false (clear 14 refl))

  screen_y : outside (negsuc 0x3ff) (pos 0x3ff) (on (shr_z s.y 4096) k.ofy) ≡ false
  unfolding vertex_checks screen_checks
  screen_y =
      let y = shr_z (exact_of (ratio_of k.h (depth_of (far_of s.z))) (ir_of false (mac_of true s.y)) k.ofy) 65536 in
      rw (depth_z, ratio_is, ir_y) at (fst (outside (negsuc 0x3ff) (pos 0x3ff) y) false (clear 13 refl))

  -- the word that is pushed
  xy_is : (vertex_of true s k).xy ≡ pair_of (on (shr_z s.x 4096) k.ofx) (on (shr_z s.y 4096) k.ofy)
  unfolding vertex_of on_screen screen_of
  xy_is = rw (depth_z, ratio_is, ir_x, ir_y, clamp_clear (negsuc 0x3ff) (pos 0x3ff) _ screen_x, clamp_clear (negsuc 0x3ff) (pos 0x3ff) _ screen_y)

  -- one coordinate
  near_one : (x o : ℤ) → outside (negsuc 0x7fff) (pos 0x7fff) x ≡ false → Close tolerance k.h (shr_z s.z 4096) x o (on x o)
  unfolding exact_of
  near_one x o e =
      let z = nat_abs (shr_z s.z 4096) in
      subst (λ (t : ℤ). Close tolerance k.h t x o (on x o)) (natural (shr_z s.z 4096) in_z)
      (close 9 z (quotient k.h z) k.h x o (short_abs x e) (quotient_error k.h z short below))

  pub near_part : NearPart tolerance s k (vertex_of true s k).xy
  unfolding pos_part neg_part
  near_part =
      let fx = point_fits (on (shr_z s.x 4096) k.ofx) screen_x in
      let fy = point_fits (on (shr_z s.y 4096) k.ofy) screen_y in
      let n = natural (shr_z s.z 4096) in_z in
      let p = positive in
      record {
        ahead = subst (λ (t : ℤ). pos 1 ≤ℤ t) n (omega zarith);
        across = rw (xy_is, low_back _ _ fx fy) (near_one (shr_z s.x 4096) k.ofx in_x);
        along = rw (xy_is, high_back _ _ fx fy) (near_one (shr_z s.y 4096) k.ofy in_y);
      }

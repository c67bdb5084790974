-- Every partial sum fits 64 bits, by the bounds of its terms.
use mathlib.Core.Path.{◌≡◌, refl}
use Prim.Native.Nat.{◌^◌, ◌*◌, ◌+◌}
use lib.Dec.{lit≤}
use lib.IntN.{ℤ, pos, ◌+ℤ◌, ◌*ℤ◌}
use mir.Syntax.{w32, w64}
use mir.Val.{SFits, to_z, of_z}
use mir.Facts.{to_z-of_z}
use Rattle.integers.specs.Parts.{Mag}
use Rattle.integers.specs.Bound.{fit, arg, mag_scale, mag_add, mag_le}
use Rattle.gte_sums.proofs.transform.add_row.Goals as goal

-- what is read back from the bits of a number
abbrev wide : ℤ → ℤ
wide z = to_z w64 (of_z w64 z)

abbrev first : ℤ → ℤ → ℤ
first t p = wide (wide t *ℤ pos 4096) +ℤ wide p

abbrev second : ℤ → ℤ → ℤ → ℤ
second t p q = wide (first t p) +ℤ wide q

abbrev whole : ℤ → ℤ → ℤ → ℤ → ℤ
whole t p q r = wide (second t p q) +ℤ wide r

module _ {t p q r : ℤ} (ht : SFits w32 t) (hp : Mag p (2 ^ 30 + 1)) (hq : Mag q (2 ^ 30 + 1)) (hr : Mag r (2 ^ 30 + 1)) where
  product : Mag (t *ℤ pos 4096) (2 ^ 43)
  product = mag_scale 4096 tt (arg w32 ht)

  first_is : first t p ≡ t *ℤ pos 4096 +ℤ p
  first_is = rw (to_z-of_z (fit w64 (arg w32 ht) tt), to_z-of_z (fit w64 product tt), to_z-of_z (fit w64 hp tt))

  second_is : second t p q ≡ t *ℤ pos 4096 +ℤ p +ℤ q
  second_is = rw (first_is, to_z-of_z (fit w64 (mag_add product hp) tt), to_z-of_z (fit w64 hq tt))

  whole_is : whole t p q r ≡ t *ℤ pos 4096 +ℤ p +ℤ q +ℤ r
  whole_is = rw (second_is, to_z-of_z (fit w64 (mag_add (mag_add product hp) hq) tt), to_z-of_z (fit w64 hr tt))

  second_fits : SFits w64 (second t p q)
  second_fits = rw second_is (fit w64 (mag_add (mag_add product hp) hq) tt)

  whole_fits : SFits w64 (whole t p q r)
  whole_fits = rw whole_is (fit w64 (mag_add (mag_add (mag_add product hp) hq) hr) tt)

  result_is : wide (whole t p q r) ≡ t *ℤ pos 4096 +ℤ p +ℤ q +ℤ r
  result_is = rw (to_z-of_z whole_fits) whole_is

  result_small : Mag (wide (whole t p q r)) (3 * 2 ^ 43)
  result_small = rw result_is (mag_le (mag_add (mag_add (mag_add product hp) hq) hr) (lit≤ tt))

pub overflow_add-result-2 : goal.overflow_add-result-2
overflow_add-result-2 c =
    rw (c.from.ensures, to_z-of_z c.ranges.t) (second_fits c.ranges.t c.times.ensures.small c.times-2.ensures.small c.times-2.ensures.small)

pub overflow_add-result-3 : goal.overflow_add-result-3
overflow_add-result-3 c =
    rw (c.from.ensures, to_z-of_z c.ranges.t) (whole_fits c.ranges.t c.times.ensures.small c.times-2.ensures.small c.times-3.ensures.small)

pub returns-clause-is : goal.returns-clause-is
returns-clause-is c =
    let f = c.ranges in
    rw (c.from.ensures, to_z-of_z f.t, result_is f.t c.times.ensures.small c.times-2.ensures.small c.times-3.ensures.small)
    (rw (c.times.ensures.is, c.times-2.ensures.is, c.times-3.ensures.is, to_z-of_z f.a, to_z-of_z f.b, to_z-of_z f.c, to_z-of_z f.x, to_z-of_z f.y, to_z-of_z f.z) refl)

pub returns-clause-small : goal.returns-clause-small
returns-clause-small c =
    rw (c.from.ensures, to_z-of_z c.ranges.t) (result_small c.ranges.t c.times.ensures.small c.times-2.ensures.small c.times-3.ensures.small)

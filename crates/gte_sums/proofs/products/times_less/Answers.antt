-- Each product has 31 bits, so that their difference fits 64.
use Prim.Native.Nat.{◌*◌, ◌^◌}
use lib.Dec.{lit≤}
use lib.IntN.{◌-ℤ◌}
use mir.Syntax.{w64}
use mir.Facts.{to_z-of_z}
use Rattle.integers.specs.Parts.{Mag}
use Rattle.integers.specs.Bound.{back, fit, mag_sub, mag_le}
use Rattle.gte_sums.proofs.products.times_less.Goals as goal

pub returns-clause-is : goal.returns-clause-is
returns-clause-is c = let small : Mag (c.times.result -ℤ c.times-2.result) (3 * 2 ^ 43) = mag_le (mag_sub c.times.ensures.small c.times-2.ensures.small) (lit≤ tt) in
    rw (back w64 c.times.result c.times.type_inv, back w64 c.times-2.result c.times-2.type_inv, to_z-of_z (fit w64 small tt)) (rw (c.times.ensures.is, c.times-2.ensures.is, to_z-of_z c.ranges.a, to_z-of_z c.ranges.b, to_z-of_z c.ranges.c, to_z-of_z c.ranges.d))

pub returns-clause-small : goal.returns-clause-small
returns-clause-small c = let small : Mag (c.times.result -ℤ c.times-2.result) (3 * 2 ^ 43) = mag_le (mag_sub c.times.ensures.small c.times-2.ensures.small) (lit≤ tt) in
    rw (back w64 c.times.result c.times.type_inv, back w64 c.times-2.result c.times-2.type_inv, to_z-of_z (fit w64 small tt)) small

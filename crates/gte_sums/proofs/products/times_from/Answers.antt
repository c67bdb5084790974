-- A product has 31 bits and MAC by 4096 has 44, so that their sum fits 64.
use mathlib.Core.Path.{◌≡◌}
use Prim.Native.Nat.{◌*◌, ◌+◌, ◌^◌}
use lib.Dec.{lit≤}
use lib.IntN.{ℤ, pos, ◌+ℤ◌, ◌*ℤ◌}
use mir.Syntax.{w32, w64}
use mir.Val.{SFits, to_z, of_z}
use mir.Facts.{to_z-of_z}
use Rattle.integers.specs.Parts.{Mag, zarith}
use Rattle.integers.specs.Product.{pos_part_scale, neg_part_scale}
use Rattle.integers.specs.Bound.{fit, arg, mag_scale, mag_add, mag_le}
use Rattle.gte_sums.proofs.products.times_from.Goals as goal

by_one : (m : ℤ) → m *ℤ pos 1 ≡ m
by_one m = omega (zarith, pos_part_scale m 1, neg_part_scale m 1)

-- what is read back from the bits of a number
abbrev wide : ℤ → ℤ
wide z = to_z w64 (of_z w64 z)

module _ {m p : ℤ} (hm : SFits w32 m) (hp : Mag p (2 ^ 30 + 1)) where
  shifted : Mag (m *ℤ pos 4096) (2 ^ 43)
  shifted = mag_scale 4096 tt (arg w32 hm)

  up : wide (wide p +ℤ wide (wide m *ℤ pos 4096)) ≡ p +ℤ m *ℤ pos 4096
  up = rw (to_z-of_z (fit w64 hp tt), to_z-of_z (fit w64 (arg w32 hm) tt), to_z-of_z (fit w64 shifted tt), to_z-of_z (fit w64 (mag_add hp shifted) tt))

  up_small : Mag (wide (wide p +ℤ wide (wide m *ℤ pos 4096))) (3 * 2 ^ 43)
  up_small = rw up (mag_le (mag_add hp shifted) (lit≤ tt))

  same : wide (wide p +ℤ wide m) ≡ p +ℤ m
  same = rw (to_z-of_z (fit w64 hp tt), to_z-of_z (fit w64 (arg w32 hm) tt), to_z-of_z (fit w64 (mag_add hp (arg w32 hm)) tt))

  same_small : Mag (wide (wide p +ℤ wide m)) (3 * 2 ^ 43)
  same_small = rw same (mag_le (mag_add hp (arg w32 hm)) (lit≤ tt))

pub returns-then-sf-clause-is : goal.returns-then-sf-clause-is
returns-then-sf-clause-is c =
    let f = c.ranges in
    rw (c.from-m.ensures, to_z-of_z f.m, up f.m c.times-p.ensures.small, c.times-p.ensures.is, to_z-of_z f.a, to_z-of_z f.b, c.if-sf.true)

pub returns-then-sf-clause-small : goal.returns-then-sf-clause-small
returns-then-sf-clause-small c = rw (c.from-m.ensures, to_z-of_z c.ranges.m) (up_small c.ranges.m c.times-p.ensures.small)

pub returns-else-sf-clause-is : goal.returns-else-sf-clause-is
returns-else-sf-clause-is c =
    let f = c.ranges in
    rw (c.from-m.ensures, to_z-of_z f.m, same f.m c.times-p.ensures.small, c.times-p.ensures.is, to_z-of_z f.a, to_z-of_z f.b, c.if-sf.false, by_one c.args.m)

pub returns-else-sf-clause-small : goal.returns-else-sf-clause-small
returns-else-sf-clause-small c = rw (c.from-m.ensures, to_z-of_z c.ranges.m) (same_small c.ranges.m c.times-p.ensures.small)

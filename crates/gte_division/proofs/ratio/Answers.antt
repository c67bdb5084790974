-- Shifted, the divisor has its top bit at bit 15; the numerator is less than twice as large, so neither loses a bit.
use mathlib.Core.Path.{◌≡◌, ap, ◌∙◌}
use Prim.Native.Nat.{ℕ, ◌+◌, ◌*◌, ◌-◌, ◌/◌, ◌%◌, ◌^◌, ◌≤◌, ◌<◌, min}
use native.Mathlib.Nat.{mul-le-mul_right, mul_assoc, mod-eq_of_lt}
use native.Mathlib.Omega.{arith}
use lib.Count.{count_leading_zeros}
use Rattle.gte_division.specs.Division.{refined, quotient}
use Rattle.gte_division.proofs.Normal.{normal, counted_in_32, zeros_16}
use Rattle.gte_division.proofs.ratio.Goals as goal

record Shifted (h sz : ℕ) : Type 0 where
  divisor : sz * 2 ^ count_leading_zeros 16 sz % 2 ^ 32 ≡ sz * 2 ^ count_leading_zeros 16 sz
  numerator : h * 2 ^ count_leading_zeros 16 sz % 2 ^ 32 ≡ h * 2 ^ count_leading_zeros 16 sz
  top : (0x8000 ≤ sz * 2 ^ count_leading_zeros 16 sz) × (sz * 2 ^ count_leading_zeros 16 sz < 0x1_0000)
  less : h * 2 ^ count_leading_zeros 16 sz ≤ 0x2_0000

shifted : (h sz : ℕ) → sz < 65536 → h < 2 * sz → Shifted h sz
shifted h sz k l =
    let p = 2 ^ count_leading_zeros 16 sz in
    let t = normal sz (omega arith) k in
    let m : h ≤ 2 * sz = omega arith in
    let n : h * p ≤ 0x2_0000 = omega (arith, mul-le-mul_right p m, mul_assoc 2 sz p, t.1) in
    record {
      divisor = mod-eq_of_lt {n = sz * p} {m = 2 ^ 32} (omega (arith, t.1));
      numerator = mod-eq_of_lt {n = h * p} {m = 2 ^ 32} (omega arith);
      top = t;
      less = n;
    }

-- what is cut
is : (h sz r : ℕ)
    → sz < 65536
    → h < 2 * sz
    → r ≡ refined (sz * 2 ^ (count_leading_zeros 32 sz - 16) % 2 ^ 32)
    → min 0x1_ffff ((h * 2 ^ (count_leading_zeros 32 sz - 16) % 2 ^ 32 * r + 0x8000) / 0x1_0000) ≡ quotient h sz
unfolding quotient
is h sz r k l e = let at = shifted h sz k l in ap (min 0x1_ffff) (rw (e, zeros_16 sz k, at.numerator, at.divisor))

pub overflow_sub-z : goal.overflow_sub-z
overflow_sub-z c = omega (arith, counted_in_32 c.args.sz c.requires.0)

pub reciprocal-requires : goal.reciprocal-requires
reciprocal-requires c =
    let at = shifted c.args.h c.args.sz c.requires.0 c.requires.1 in rw (zeros_16 c.args.sz c.requires.0, at.divisor) at.top

flip : (x : ℕ) → min x 0x1_ffff ≡ min 0x1_ffff x
flip x = omega arith

pub returns-clause-is : goal.returns-clause-is
returns-clause-is c =
    c.min.ensures ∙ flip _ ∙ rw (c.from.ensures, c.from-2.ensures) (is c.args.h c.args.sz c.reciprocal.result c.requires.0 c.requires.1 c.reciprocal.ensures.is)

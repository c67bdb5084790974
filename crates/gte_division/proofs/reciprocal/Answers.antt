-- The divisor has 16 bits and the first guess is at most 200h, so no product needs more than 27 bits, and the difference
-- does not go below 0.
use Prim.Native.Nat.{ℕ, ◌+◌, ◌*◌, ◌-◌, ◌/◌, ◌≤◌, ◌<◌}
use native.Mathlib.Nat.{mul-le-mul}
use native.Mathlib.Omega.{arith}
use Rattle.gte_division.specs.Division.{refined}
use Rattle.gte_division.proofs.reciprocal.Goals as goal

record Sizes (d u : ℕ) : Type 0 where
  first : d * u ≤ 0xffff * 0x200
  second : (0x200_0080 - d * u) / 256 * u ≤ 0x2_0000 * 0x200

sizes : (d u : ℕ) → d < 0x1_0000 → u ≤ 0x200 → Sizes d u
sizes d u h k =
    let f : d ≤ 0xffff = omega arith in
    let s : (0x200_0080 - d * u) / 256 ≤ 0x2_0000 = omega arith in
    record { first = mul-le-mul f k; second = mul-le-mul s k }

pub returns-clause-is : goal.returns-clause-is
unfolding refined
returns-clause-is c = let at : Sizes c.args.d (0x101 + c.entry-u.result) = sizes c.args.d (0x101 + c.entry-u.result) c.requires.1 (omega (arith, c.entry-u.ensures.small)) in
    rw c.entry-u.ensures.is

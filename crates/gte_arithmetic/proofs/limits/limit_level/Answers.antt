-- A number limited to 0..hi is not negative, and a word if hi is.
use borrow.Author.Rules.{rules}
use mathlib.Core.Path.{◌≡◌}
use Prim.Native.Nat.{ℕ, ◌^◌, ◌<◌}
use lib.Dec.{T}
use lib.IntN.{ℤ, pos, nat_abs}
use lib.Signed.{non_neg}
use mir.Syntax.{w32, w64}
use mir.Val.{Fits, to_z, of_z}
use Rattle.integers.specs.Parts.{pos_part, neg_part, zarith, pos_nonneg}
use Rattle.integers.specs.Bits.{unsign}
use Rattle.integers.specs.Clamp.{clamp, clamp_low, clamp_high}
use Rattle.gte_arithmetic.proofs.limits.limit_level.Goals as goal

level : (hi : ℕ) (z : ℤ) → hi < 2 ^ 32 → T (non_neg (clamp (pos 0) (pos hi) z)) × Fits w32 (nat_abs (clamp (pos 0) (pos hi) z))
unfolding pos_part neg_part
level hi z h =
    let l = clamp_low (pos 0) (pos hi) z (pos_nonneg hi) in
    let u = clamp_high (pos 0) (pos hi) z (pos_nonneg hi) in
    unsign w32 _ l (omega zarith)

pub overflow_cast-result : goal.overflow_cast-result
overflow_cast-result c =
    let is : to_z w64 (of_z w64 c.limit-l.result.v) ≡ clamp (pos 0) (pos c.args.hi) c.args.x = search rules in
    rw is (level c.args.hi c.args.x c.ranges.hi.fits)

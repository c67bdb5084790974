-- Where both ends have 16 bits, so has a number limited by them.
use borrow.Author.Rules.{rules}
use mathlib.Core.Path.{◌≡◌}
use lib.IntN.{ℤ}
use mir.Syntax.{w16, w64}
use mir.Val.{SFits, to_z, of_z}
use mir.Facts.{to_z-of_z, sfits_widen}
use Rattle.integers.specs.Bound.{arg, fit}
use Rattle.integers.specs.Clamp.{clamp, clamp_mag, outside}
use Rattle.gte_arithmetic.specs.Checks.{raise}
use Rattle.gte_arithmetic.proofs.limits.limit_short.Goals as goal

short : (lo hi z : ℤ) → SFits w16 lo → SFits w16 hi → SFits w16 (clamp lo hi z)
short lo hi z l h = fit w16 (clamp_mag lo hi z (arg w16 l) (arg w16 h)) tt

pub overflow_cast-result : goal.overflow_cast-result
overflow_cast-result c =
    let is : to_z w64 (of_z w64 c.limit-l.result.v) ≡ clamp c.args.lo c.args.hi c.args.x = search rules in
    rw is (short c.args.lo c.args.hi c.args.x c.requires.low c.requires.high)

pub returns : goal.returns
returns c =
    let is : c.limit-l.result ≡ record { v = clamp c.args.lo c.args.hi c.args.x; flag = raise (outside c.args.lo c.args.hi c.args.x) c.args.bit } = search rules in
    let fits = short c.args.lo c.args.hi c.args.x c.requires.low c.requires.high in
    rw (is, to_z-of_z {w = w64} (sfits_widen tt fits), to_z-of_z fits)

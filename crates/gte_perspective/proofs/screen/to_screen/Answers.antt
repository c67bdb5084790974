-- Two coordinates and a factor of one quotient, whose flags are those of the checks of lines 5 to 7.
use mathlib.Core.Path.{◌≡◌}
use mir.Syntax.{w16, w32}
use mir.Facts.{to_z-of_z}
use Rattle.integers.specs.Bound.{back}
use Rattle.gte_arithmetic.specs.Checks.{or}
use Rattle.gte_division.specs.Division.{ratio_of}
use Rattle.gte_perspective.specs.Perspective.{exact_of, pair_of, coordinate_of, cue_at}
use Rattle.gte_perspective.proofs.Joined.{screen_joined}
use Rattle.gte_perspective.proofs.screen.to_screen.Goals as goal

pub returns : goal.returns
unfolding or
returns c =
    let is_x : (let a = c.args in c.coordinate-x.result ≡ coordinate_of (exact_of (ratio_of a.k.h a.sz) a.ir1 a.k.ofx) 0x4000) = rw (to_z-of_z c.ranges.ir1, back w32 c.args.k.ofx c.struct_told-1.given.1.0.1, c.divide-q.ensures.is) at c.coordinate-x.ensures in
    let is_y : (let a = c.args in c.coordinate-y.result ≡ coordinate_of (exact_of (ratio_of a.k.h a.sz) a.ir2 a.k.ofy) 0x2000) = rw (to_z-of_z c.ranges.ir2, back w32 c.args.k.ofy c.struct_told-2-1.given.1.1.0.1, c.divide-q.ensures.is) at c.coordinate-y.ensures in
    let is_d : c.cue_factor-d.result ≡ cue_at (ratio_of c.args.k.h c.args.sz) c.args.k = rw c.divide-q.ensures.is at c.cue_factor-d.ensures in
    let is_p : c.pair.result ≡ pair_of c.coordinate-x.result.v c.coordinate-y.result.v = rw (back w16 c.coordinate-x.result.v c.struct_told-3-1.given.0.1, back w16 c.coordinate-y.result.v c.struct_told-4-1.given.0.1) at c.pair.ensures in
    let a = c.args in
    rw (
      back w32 c.cue_factor-d.result.mac0 c.struct_told-5-1.given.0.1,
      is_p,
      c.divide-q.ensures.is,
      is_x,
      is_y,
      is_d,
    ) (screen_joined a.k a.sz a.ir1 a.ir2)

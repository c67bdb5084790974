-- The row of the quotient, then those of lines 5, 6 and 7.
use mir.Syntax.{w64}
use mir.Facts.{to_z-of_z}
use Rattle.integers.specs.Bound.{back}
use Rattle.gte_perspective.specs.Perspective.{screen_checks}
use Rattle.gte_rows.proofs.Listings.{then}
use Rattle.gte_causes.proofs.perspective.list_to_screen.Goals as goal

pub returns : goal.returns
unfolding screen_checks
returns c = let e = c.screen_sums-e.result in
    let o = rw (to_z-of_z c.ranges.ir1, to_z-of_z c.ranges.ir2) at c.screen_sums-e.ensures in
    let x = rw (back w64 e.x c.struct_told-1.given.0.1, o) at c.list_coordinate.ensures in
    let y = rw (back w64 e.y c.struct_told-2-1.given.1.0.1, o) at c.list_coordinate-2.ensures in
    let d = rw (back w64 e.z c.struct_told-3-1.given.1.1.0.1, o) at c.list_cue_factor.ensures in
    then (then (then c.list_division.ensures x) y) d

-- The rows of MAC0, then that of OTZ from its exact value.
use mir.Syntax.{w64}
use mir.Facts.{to_z-of_z}
use Rattle.integers.specs.Bound.{back}
use Rattle.gte_depth.specs.Depth.{average_checks}
use Rattle.gte_rows.proofs.Listings.{then}
use Rattle.gte_causes.proofs.depth.list_average.Goals as goal

pub returns : goal.returns
unfolding average_checks
returns c = let f = to_z-of_z c.ranges.x in
    let u = rw f at c.list_mac0.ensures in
    let v = rw (back w64 c.shift_down.result c.shift_down.type_inv, c.shift_down.ensures, f) at c.list_depth.ensures in
    then u v

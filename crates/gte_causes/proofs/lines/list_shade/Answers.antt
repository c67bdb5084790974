-- The rows of three channels, one after another.
use mir.Syntax.{w64}
use Rattle.integers.specs.Bound.{back}
use Rattle.gte_colour.specs.Shade.{shade_checks}
use Rattle.gte_rows.proofs.Listings.{then}
use Rattle.gte_causes.proofs.lines.list_shade.Goals as goal

pub returns : goal.returns
unfolding shade_checks
returns c = let s = c.args.s in
    let u = rw (back w64 s.x c.struct_told-1.given.0.1) at c.list_channel.ensures in
    let v = rw (back w64 s.y c.struct_told-2-1.given.1.0.1) at c.list_channel-2.ensures in
    let w = rw (back w64 s.z c.struct_told-3-1.given.1.1.0.1) at c.list_channel-3.ensures in
    then (then u v) w

-- The rows of three ends, one after another.
use mir.Syntax.{w64}
use Rattle.integers.specs.Bound.{back}
use Rattle.gte_lighting.specs.Normals.{last_checks}
use Rattle.gte_rows.proofs.Listings.{then}
use Rattle.gte_causes.proofs.lighting.list_last.Goals as goal

pub returns : goal.returns
unfolding last_checks
returns c = let s = c.args.s in
    let u = rw (back w64 s.x c.struct_told-1.given.0.1) at c.list_end.ensures in
    let v = rw (back w64 s.y c.struct_told-2-1.given.1.0.1) at c.list_end-2.ensures in
    let w = rw (back w64 s.z c.struct_told-3-1.given.1.1.0.1) at c.list_end-3.ensures in
    then (then u v) w

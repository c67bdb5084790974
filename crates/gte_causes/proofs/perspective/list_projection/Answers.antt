-- The rows of each line in turn; lines 5 to 7 read what the first lines leave.
use mir.Syntax.{w16, w64}
use Rattle.integers.specs.Bound.{back}
use Rattle.gte_perspective.specs.Projection.{vertex_checks}
use Rattle.gte_rows.proofs.Listings.{then}
use Rattle.gte_causes.proofs.perspective.list_projection.Goals as goal

pub returns : goal.returns
unfolding vertex_checks
returns c = let s = c.args.s in
    let e = c.first_lines-e.result in
    let x = rw (back w64 s.x c.struct_told-1.given.0.1) at c.list_cell.ensures in
    let y = rw (back w64 s.y c.struct_told-3-1.given.1.0.1) at c.list_cell-2.ensures in
    let z = rw (back w64 s.z c.struct_told-5-1.given.1.1.0.1) at c.list_third.ensures in
    let p = rw (back w16 e.ir1 c.struct_told-6-1.given.1.0.1, back w16 e.ir2 c.struct_told-7-1.given.1.1.0.1, c.first_lines-e.ensures.is) at c.list_to_screen.ensures in
    then (then (then x y) z) p

-- The rows of three cells, each with a sum to test and another to store.
use mir.Syntax.{w64}
use Rattle.integers.specs.Bound.{back}
use Rattle.gte_matrix.specs.Multiply.{far_checks}
use Rattle.gte_rows.proofs.Listings.{then}
use Rattle.gte_causes.proofs.matrix.list_far.Goals as goal

pub returns : goal.returns
unfolding far_checks
returns c = let s = c.args.s in
    let t = c.args.t in
    let u = rw (back w64 s.x c.struct_told-1.given.0.1, back w64 t.x c.struct_told-2-1.given.0.1) at c.list_cell.ensures in
    let v = rw (back w64 s.y c.struct_told-3-1.given.1.0.1, back w64 t.y c.struct_told-4-1.given.1.0.1) at c.list_cell-2.ensures in
    let w = rw (back w64 s.z c.struct_told-5-1.given.1.1.0.1, back w64 t.z c.struct_told-6-1.given.1.1.0.1) at c.list_cell-3.ensures in
    then (then u v) w

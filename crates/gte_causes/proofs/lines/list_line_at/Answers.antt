-- The rows of three cells, one after another.
use mir.Syntax.{w64}
use Rattle.integers.specs.Bound.{back}
use Rattle.gte_line.specs.Line.{line_checks_at}
use Rattle.gte_rows.proofs.Listings.{then}
use Rattle.gte_causes.proofs.lines.list_line_at.Goals as goal

pub returns : goal.returns
unfolding line_checks_at
returns c = let s = c.args.s in
    let u = rw (back w64 s.x c.struct_told-1.given.0.1) at c.list_cell.ensures in
    let v = rw (back w64 s.y c.struct_told-3-1.given.1.0.1) at c.list_cell-2.ensures in
    let w = rw (back w64 s.z c.struct_told-5-1.given.1.1.0.1) at c.list_cell-3.ensures in
    then (then u v) w

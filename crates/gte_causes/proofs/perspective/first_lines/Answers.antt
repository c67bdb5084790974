-- IR1, IR2 and SZ3 as the command has them; SZ3 has 16 bits.
use mir.Syntax.{w16, w64}
use Rattle.integers.specs.Bound.{back}
use Rattle.gte_line.specs.Line.{cell_of}
use Rattle.gte_perspective.proofs.Joined.{depth_small}
use Rattle.gte_causes.proofs.perspective.first_lines.Goals as goal

pub returns-clause-is : goal.returns-clause-is
unfolding cell_of
returns-clause-is c = let s = c.args.s in
    let x = rw (back w64 s.x c.struct_told-1.given.0.1) at c.finish_one-x.ensures in
    let y = rw (back w64 s.y c.struct_told-2-1.given.1.0.1) at c.finish_one-y.ensures in
    let d = rw (back w64 c.far.result c.far.type_inv, rw (back w64 s.z c.struct_told-3-1.given.1.1.0.1) at c.far.ensures) at c.limit_depth-d.ensures in
    rw (back w16 c.finish_one-x.result.ir c.struct_told-4-1.given.1.0.1, back w16 c.finish_one-y.result.ir c.struct_told-5-1.given.1.0.1, x, y, d)

pub returns-clause-small : goal.returns-clause-small
unfolding cell_of
returns-clause-small c = let s = c.args.s in
    let x = rw (back w64 s.x c.struct_told-1.given.0.1) at c.finish_one-x.ensures in
    let y = rw (back w64 s.y c.struct_told-2-1.given.1.0.1) at c.finish_one-y.ensures in
    let d = rw (back w64 c.far.result c.far.type_inv, rw (back w64 s.z c.struct_told-3-1.given.1.1.0.1) at c.far.ensures) at c.limit_depth-d.ensures in
    rw d (depth_small _)

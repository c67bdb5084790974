-- The two cells, the third line and the screen, whose flags are those of the checks of all seven lines.
use mathlib.Core.Path.{◌≡◌}
use mathlib.Core.Bool.{false}
use mir.Syntax.{w16, w32, w64}
use Rattle.integers.specs.Bound.{back}
use Rattle.gte_arithmetic.specs.Checks.{or}
use Rattle.gte_line.specs.Line.{cell_of}
use Rattle.gte_perspective.specs.Projection.{far_of, third_of}
use Rattle.gte_perspective.specs.Perspective.{on_screen}
use Rattle.gte_perspective.proofs.Joined.{depth_small, vertex_joined}
use Rattle.gte_perspective.proofs.projection.project.Goals as goal

pub to_screen-p-requires : goal.to_screen-p-requires
to_screen-p-requires c =
    let is_c : (let g = c.args in c.third_line-c.result ≡ third_of g.sf g.s.z) = rw (back w64 c.args.s.z c.struct_told-3-1.given.1.1.0.1) at c.third_line-c.ensures in
    rw is_c (depth_small (far_of c.args.s.z))

pub returns : goal.returns
unfolding or
returns c =
    let is_a : (let g = c.args in c.finish_one-a.result ≡ cell_of g.sf false 0x4000_0000 0x800_0000 0x100_0000 g.s.x) = rw (back w64 c.args.s.x c.struct_told-1.given.0.1) at c.finish_one-a.ensures in
    let is_b : (let g = c.args in c.finish_one-b.result ≡ cell_of g.sf false 0x2000_0000 0x400_0000 0x80_0000 g.s.y) = rw (back w64 c.args.s.y c.struct_told-2-1.given.1.0.1) at c.finish_one-b.ensures in
    let is_c : (let g = c.args in c.third_line-c.result ≡ third_of g.sf g.s.z) = rw (back w64 c.args.s.z c.struct_told-3-1.given.1.1.0.1) at c.third_line-c.ensures in
    let is_p : c.to_screen-p.result ≡ on_screen c.args.k c.third_line-c.result.sz c.finish_one-a.result.ir c.finish_one-b.result.ir = rw (back w16 c.finish_one-a.result.ir c.struct_told-4-1.given.1.0.1, back w16 c.finish_one-b.result.ir c.struct_told-5-1.given.1.0.1) at c.to_screen-p.ensures in
    let g = c.args in
    rw (
      back w32 c.finish_one-a.result.mac c.struct_told-6-1.given.0.1,
      back w32 c.finish_one-b.result.mac c.struct_told-7-1.given.0.1,
      back w32 c.third_line-c.result.mac c.struct_told-8-1.given.0.1,
      back w16 c.finish_one-a.result.ir c.struct_told-9-1.given.1.0.1,
      back w16 c.finish_one-b.result.ir c.struct_told-10-1.given.1.0.1,
      back w16 c.third_line-c.result.ir c.struct_told-11-1.given.1.0.1,
      back w32 c.to_screen-p.result.mac0 c.struct_told-12-1.given.0.1,
      is_p,
      is_a,
      is_b,
      is_c,
    ) (vertex_joined g.sf g.s g.k)

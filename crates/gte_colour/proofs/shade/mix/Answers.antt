-- The line of the differences, whose IR times IR0 is added to each value.
use mathlib.Core.Path.{◌≡◌}
use borrow.Author.Rules.{rules}
use mathlib.Core.Bool.{false}
use Prim.Native.Nat.{◌*◌, ◌^◌}
use mir.Syntax.{w16, w64}
use mir.Facts.{to_z-of_z}
use Rattle.integers.specs.Bound.{back}
use Rattle.gte_line.specs.Line.{line_of}
use Rattle.gte_colour.specs.Shade.{farther, blend_of, mixed_of}
use Rattle.gte_sums.proofs.Three.{three}
use Rattle.gte_colour.proofs.shade.mix.Goals as goal

pub returns-clause-is : goal.returns-clause-is
unfolding mixed_of blend_of line_of
returns-clause-is c = let is_l : (let a = c.args in c.finish-l.result ≡ line_of a.sf false (farther a.fc a.s)) = rw c.away.ensures.is at c.finish-l.ensures in
    let l = is_l in
    let f = to_z-of_z c.ranges.f in
    let v = three {n = 3 * 2 ^ 43} tt tt
    (rw (back w16 c.finish-l.result.ir.x (search rules), f, back w64 c.args.s.x (search rules), l) at c.toward_one.ensures.is, c.toward_one.ensures.small)
    (rw (back w16 c.finish-l.result.ir.y (search rules), f, back w64 c.args.s.y (search rules), l) at c.toward_one-2.ensures.is, c.toward_one-2.ensures.small)
    (rw (back w16 c.finish-l.result.ir.z (search rules), f, back w64 c.args.s.z (search rules), l) at c.toward_one-3.ensures.is, c.toward_one-3.ensures.small) in
    rw (v.0, l)

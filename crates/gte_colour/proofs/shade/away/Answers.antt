-- The three differences.
use Prim.Native.Nat.{◌*◌, ◌^◌}
use mir.Syntax.{w32, w64}
use Rattle.integers.specs.Bound.{back}
use Rattle.gte_colour.specs.Shade.{farther}
use Rattle.gte_sums.proofs.Three.{three}
use Rattle.gte_colour.proofs.shade.away.Goals as goal

pub returns-clause-is : goal.returns-clause-is
unfolding farther
returns-clause-is c =
    (three {n = 3 * 2 ^ 43} tt tt
    (rw (back w32 c.args.fc.x c.struct_told-1.given.0.1, back w64 c.args.s.x c.struct_told-2-1.given.0.1) at c.away_one.ensures.is, c.away_one.ensures.small)
    (rw (back w32 c.args.fc.y c.struct_told-3-1.given.1.0.1, back w64 c.args.s.y c.struct_told-4-1.given.1.0.1) at c.away_one-2.ensures.is, c.away_one-2.ensures.small)
    (rw (back w32 c.args.fc.z c.struct_told-5-1.given.1.1.0.1, back w64 c.args.s.z c.struct_told-6-1.given.1.1.0.1) at c.away_one-3.ensures.is, c.away_one-3.ensures.small)).0

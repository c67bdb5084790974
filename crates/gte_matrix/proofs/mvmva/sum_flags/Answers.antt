-- The flags of the three tests are those of the checks of three sums.
use mathlib.Core.Path.{◌≡◌}
use mir.Syntax.{w64}
use Rattle.integers.specs.Bound.{back}
use Rattle.gte_arithmetic.specs.Checks.{or, flags}
use Rattle.gte_arithmetic.specs.Values.{sum_flag}
use Rattle.gte_arithmetic.specs.Triples.{Wide}
use Rattle.gte_arithmetic.proofs.Flags.{or_assoc, or_none}
use Rattle.gte_matrix.specs.Multiply.{sum_flags}
use Rattle.gte_matrix.proofs.mvmva.sum_flags.Goals as goal

joined : (s : Wide) → or (sum_flag 0x4000_0000 0x800_0000 s.x) (or (sum_flag 0x2000_0000 0x400_0000 s.y) (sum_flag 0x1000_0000 0x200_0000 s.z)) ≡ sum_flags s
unfolding sum_flags flags sum_flag
joined s = simp (or_assoc, or_none)

pub returns : goal.returns
unfolding or
returns c =
    let s = c.args.s in
    rw (
      c.wrap_44-a.ensures,
      c.wrap_44-b.ensures,
      c.wrap_44-d.ensures,
      back w64 s.x c.struct_told-1.given.0.1,
      back w64 s.y c.struct_told-2-1.given.1.0.1,
      back w64 s.z c.struct_told-3-1.given.1.1.0.1,
    ) (joined s)

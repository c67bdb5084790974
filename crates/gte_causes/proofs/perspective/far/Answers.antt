-- The wrapped sum, shifted.
use mir.Syntax.{w64}
use mir.Facts.{to_z-of_z}
use Rattle.integers.specs.Bound.{back}
use Rattle.gte_perspective.specs.Projection.{far_of}
use Rattle.gte_causes.proofs.perspective.far.Goals as goal

pub returns : goal.returns
unfolding far_of
returns c = rw (back w64 c.shift_down.result c.shift_down.type_inv) (rw (back w64 c.wrap_44-w.result.v c.struct_told-1.given.0.1, rw (to_z-of_z c.ranges.x) at c.wrap_44-w.ensures) at c.shift_down.ensures)

-- The sums are those of the registers.
use Rattle.gte_perspective.specs.Vertices.{rotated}
use Rattle.gte_causes.proofs.perspective.list_vertex.Goals as goal

pub returns : goal.returns
unfolding rotated
returns c = rw (c.product-s.ensures.is, c.rotation.ensures, c.translation.ensures, c.vector.ensures, c.camera.ensures) at c.list_projection.ensures

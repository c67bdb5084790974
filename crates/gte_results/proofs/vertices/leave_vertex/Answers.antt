-- What is written to the storage is seen as written to the words.
use Rattle.gte_results.specs.VertexEffects.{vertex_left}
use Rattle.gte_results.proofs.VerticesViews.{vertex_view}
use Rattle.gte_results.proofs.vertices.leave_vertex.Goals as goal

pub returns : goal.returns
unfolding vertex_left
returns c =
    let a = c.args in
    rw (c.keep_vertex.ensures, c.push_vertex.ensures) (vertex_view a.v a.c.now c.told-c)

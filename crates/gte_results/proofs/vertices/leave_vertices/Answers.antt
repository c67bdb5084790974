-- As for one vertex, with three in the queues.
use Rattle.gte_results.proofs.VerticesViews.{vertices_view}
use Rattle.gte_results.proofs.vertices.leave_vertices.Goals as goal

pub returns : goal.returns
returns c =
    let a = c.args in
    rw (
      c.keep_vertex.ensures,
      c.push_vertex-3.ensures,
      c.push_vertex-2.ensures,
      c.push_vertex.ensures,
    ) (vertices_view a.p a.q a.r a.flag a.c.now c.told-c)

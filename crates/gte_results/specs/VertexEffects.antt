-- What RTPS and RTPT write, and nothing else.
use Rattle.std.specs.Prelude.{List, ℕ, set}
use Rattle.std.specs.Int.{w32}
use Rattle.std.proofs.Common.{of_z}
use Rattle.gte_arithmetic.specs.Checks.{or}
use Rattle.gte_arithmetic.specs.declared.values.Vertex.{Vertex}
use Rattle.gte_registers.specs.Registers.{reg, pushed_xy}
use Rattle.gte_results.specs.Effects.{stored, flagged}

-- the SZ queue: the older entries move one stage down
unfoldable pub pushed_z : ℕ → List ℕ → List ℕ
pushed_z z w = set (set (set (set w 16 (reg w 17)) 17 (reg w 18)) 18 (reg w 19)) 19 z

-- RTPS and RTPT
unfoldable pub pushed_vertex : Vertex → List ℕ → List ℕ
pushed_vertex v w = pushed_xy v.xy (pushed_z v.sz w)

unfoldable pub vertex_kept : Vertex → ℕ → List ℕ → List ℕ
vertex_kept v f w = flagged f (stored v.mac v.ir (set (set w 24 (of_z w32 v.mac0)) 8 v.ir0))

unfoldable pub vertex_left : Vertex → List ℕ → List ℕ
vertex_left v w = vertex_kept v v.flag (pushed_vertex v w)

unfoldable pub vertices_left : Vertex → Vertex → Vertex → List ℕ → List ℕ
vertices_left a b c w = vertex_kept c (or a.flag (or b.flag c.flag)) (pushed_vertex c (pushed_vertex b (pushed_vertex a w)))

-- What a command writes to the storage is seen as written to the words that reads return.
use mathlib.Core.Path.{◌≡◌, ap, ◌∙◌}
use mathlib.Core.List.{List}
use Prim.Native.Nat.{ℕ}
use lib.ListN.{length}
use Rattle.gte_arithmetic.specs.declared.values.Vertex.{Vertex}
use Rattle.gte_registers.specs.Registers.{kinds, read_of, reads, view, pushed_xy}
use Rattle.gte_registers.proofs.Views.{short_short, half_half, from, spelt}
use Rattle.gte_results.specs.Effects.{stored, flagged}
use Rattle.gte_results.specs.VertexEffects.{pushed_z, pushed_vertex, vertex_kept, vertex_left}

vertex_seen : (x : Vertex) (s : List ℕ) → reads (vertex_left x (from 64 0 s)) ≡ reads (vertex_left x (reads s))
unfolding reads read_of kinds vertex_left vertex_kept pushed_vertex stored flagged pushed_z pushed_xy
vertex_seen x s = simp (short_short, half_half)

pub vertex_view : (x : Vertex) (s : List ℕ) → length s ≡ 64 → view (vertex_left x s) ≡ reads (vertex_left x (view s))
unfolding view
vertex_view x s h = ap (λ (t : List ℕ). reads (vertex_left x t)) (spelt s h) ∙ vertex_seen x s

-- three vertices, with any flags
vertices_seen : (x y z : Vertex) (f : ℕ) (s : List ℕ) → reads (vertex_kept z f (pushed_vertex z (pushed_vertex y (pushed_vertex x (from 64 0 s))))) ≡ reads (vertex_kept z f (pushed_vertex z (pushed_vertex y (pushed_vertex x (reads s)))))
unfolding reads read_of kinds vertex_kept pushed_vertex stored flagged pushed_z pushed_xy
vertices_seen x y z f s = simp (short_short, half_half)

pub vertices_view : (x y z : Vertex) (f : ℕ) (s : List ℕ) → length s ≡ 64 → view (vertex_kept z f (pushed_vertex z (pushed_vertex y (pushed_vertex x s)))) ≡ reads (vertex_kept z f (pushed_vertex z (pushed_vertex y (pushed_vertex x (view s)))))
unfolding view
vertices_view x y z f s h = ap (λ (t : List ℕ). reads (vertex_kept z f (pushed_vertex z (pushed_vertex y (pushed_vertex x t))))) (spelt s h) ∙ vertices_seen x y z f s

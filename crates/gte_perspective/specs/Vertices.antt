-- RTPS and RTPT: the vertex of each and the checks that it makes. RTPT is its part at k = 0, 1 and 2.
use Rattle.std.specs.Prelude.{Bool, cond, List, ℕ}
use Rattle.gte_arithmetic.specs.Checks.{Check}
use Rattle.gte_sums.specs.Sums.{product_of}
use Rattle.gte_arithmetic.specs.Triples.{Wide}
use Rattle.gte_perspective.specs.Projection.{vertex_of, vertex_checks}
use Rattle.gte_arithmetic.specs.declared.values.Vertex.{Vertex}
use Rattle.gte_perspective.specs.declared.projection.Front.{Front}
use Rattle.gte_perspective.specs.declared.screen.Factor.{Factor}
use Rattle.gte_inputs.specs.Inputs.{Inputs, normal, inputs_of}
use Rattle.gte_registers.specs.Registers.{reads}
use Rattle.gte_results.specs.VertexEffects.{vertex_left, vertices_left}

-- the exact sums TR·1000h + RT-as-V
unfoldable pub rotated : Inputs → ℕ → Wide
rotated i k = product_of i.rt i.tr (normal k i)

abbrev pub vertex_at : Bool → Inputs → ℕ → Vertex
vertex_at sf i k = vertex_of sf (rotated i k) i.camera

abbrev pub vertex_checks_at : Bool → Inputs → ℕ → List Check
vertex_checks_at sf i k = vertex_checks sf (rotated i k) i.camera

-- a vertex whose lines 1 to 6 set no bit, from what those lines and line 7 give
abbrev pub plain_of : Front → ℕ → Factor → Vertex
plain_of f xy d =
    record {
      mac0 = d.mac0;
      mac = record { x = f.x; y = f.y; z = f.z };
      ir0 = d.ir0;
      ir = record { x = f.x; y = f.y; z = f.z };
      sz = f.sz;
      xy = xy;
      flag = d.flag;
    }

-- what RTPT (three vertices) or RTPS (one) leaves
abbrev pub left_of : Bool → Bool → List ℕ → List ℕ
left_of three sf w =
    let i = inputs_of w in
    reads (cond three (vertices_left (vertex_at sf i 0) (vertex_at sf i 1) (vertex_at sf i 2) w) (vertex_left (vertex_at sf i 0) w))

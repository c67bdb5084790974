-- Each vertex is what its lines give where they set no bit. All are read before anything is written.
use mathlib.Core.Path.{◌≡◌, ap}
use mathlib.Core.Bool.{true}
use Rattle.gte_inputs.specs.Inputs.{inputs_of}
use Rattle.gte_inputs.proofs.Views.{inputs_view}
use Rattle.gte_registers.specs.Registers.{reads}
use Rattle.gte_perspective.specs.Perspective.{cue_at}
use Rattle.gte_perspective.specs.Vertices.{rotated, vertex_at, plain_of}
use Rattle.gte_perspective.proofs.Joined.{seen_vertex, front_divides, three_left}
use Rattle.gte_perspective.proofs.vertices.seen.Goals as goal

pub ratio-q0-requires : goal.ratio-q0-requires
ratio-q0-requires c = front_divides c.in-Some.ensures

pub ratio-q1-requires : goal.ratio-q1-requires
ratio-q1-requires c = front_divides c.in-Some-in_front.ensures

pub ratio-q2-requires : goal.ratio-q2-requires
ratio-q2-requires c = front_divides c.in-Some-in_front-2.ensures

pub ratio-q-requires : goal.ratio-q-requires
ratio-q-requires c = front_divides c.in-Some.ensures

pub returns-in-Some-on_screen-3 : goal.returns-in-Some-on_screen-3
unfolding rotated
returns-in-Some-on_screen-3 c =
    let sums_0 : c.product.result ≡ rotated (inputs_of c.args.c.now) 0 = rw (c.product.ensures.is, c.rotation-m.ensures, c.translation-t.ensures, c.vector.ensures) in
    let vertex_0 : vertex_at true (inputs_of c.args.c.now) 0 ≡ plain_of c.in-Some.f0 c.in-Some-on_screen.p0 (cue_at c.ratio-q0.result c.camera-k.result) = seen_vertex (inputs_of c.args.c.now) 0 _ _ _ _ _ sums_0 c.camera-k.ensures c.ratio-q0.ensures.is c.in-Some.ensures c.in-Some-on_screen.ensures in
    let sums_1 : c.product-then-three.result ≡ rotated (inputs_of c.args.c.now) 1 = rw (c.product-then-three.ensures.is, c.rotation-m.ensures, c.translation-t.ensures, c.vector-then-three.ensures) in
    let vertex_1 : vertex_at true (inputs_of c.args.c.now) 1 ≡ plain_of c.in-Some-in_front.f1 c.in-Some-on_screen-2.p1 (cue_at c.ratio-q1.result c.camera-k.result) = seen_vertex (inputs_of c.args.c.now) 1 _ _ _ _ _ sums_1 c.camera-k.ensures c.ratio-q1.ensures.is c.in-Some-in_front.ensures c.in-Some-on_screen-2.ensures in
    let sums_2 : c.product-then-three-2.result ≡ rotated (inputs_of c.args.c.now) 2 = rw (c.product-then-three-2.ensures.is, c.rotation-m.ensures, c.translation-t.ensures, c.vector-then-three-2.ensures) in
    let vertex_2 : vertex_at true (inputs_of c.args.c.now) 2 ≡ plain_of c.in-Some-in_front-2.f2 c.in-Some-on_screen-3.p2 (cue_at c.ratio-q2.result c.camera-k.result) = seen_vertex (inputs_of c.args.c.now) 2 _ _ _ _ _ sums_2 c.camera-k.ensures c.ratio-q2.ensures.is c.in-Some-in_front-2.ensures c.in-Some-on_screen-3.ensures in
    rw (
      c.leave_vertices.ensures,
      c.plain.ensures,
      c.plain-then-three.ensures,
      c.plain-then-three-2.ensures,
      c.cue_factors-d.ensures,
      c.if-three.true,
      inputs_view c.args.c.now,
    ) (ap reads (three_left _ _ _ _ c.in-Some.f0 c.in-Some-in_front.f1 c.in-Some-in_front-2.f2 _ _ _ _ _ _ vertex_0 vertex_1 vertex_2))

pub returns-in-Some-on_screen-4 : goal.returns-in-Some-on_screen-4
unfolding rotated
returns-in-Some-on_screen-4 c =
    let sums_0 : c.product.result ≡ rotated (inputs_of c.args.c.now) 0 = rw (c.product.ensures.is, c.rotation-m.ensures, c.translation-t.ensures, c.vector.ensures) in
    let vertex : vertex_at true (inputs_of c.args.c.now) 0 ≡ plain_of c.in-Some.f0 c.in-Some-on_screen-4.p (cue_at c.ratio-q.result c.camera-k.result) = seen_vertex (inputs_of c.args.c.now) 0 _ _ _ _ _ sums_0 c.camera-k.ensures c.ratio-q.ensures.is c.in-Some.ensures c.in-Some-on_screen-4.ensures in
    rw (c.leave_vertex.ensures, c.plain-else-three.ensures, c.cue_factor.ensures, c.if-three.false, inputs_view c.args.c.now, vertex)

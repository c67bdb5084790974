-- What the lines give, put together: the flags of a part are those of its checks.
use mathlib.Core.Bool.{Bool, true, false}
use mathlib.Core.List.{List}
use mathlib.Core.Path.{◌≡◌, sym, ap, ◌∙◌}
use Prim.Native.Nat.{ℕ, ◌*◌, ◌<◌}
use borrow.Author.Tests.{lt-leb}
use lib.Dec.{leb}
use lib.IntN.{ℤ, pos}
use Rattle.integers.specs.Clamp.{clamp, clamp_low, clamp_high}
use Rattle.integers.specs.Parts.{pos_part, neg_part, nat_abs_gap, pos_nonneg, zarith}
use Rattle.gte_arithmetic.specs.Checks.{or, raise, flags}
use Rattle.gte_arithmetic.specs.Values.{depth_of, sum_flag, mac0_flag}
use Rattle.gte_arithmetic.specs.declared.values.Camera.{Camera}
use Rattle.gte_arithmetic.specs.declared.values.Vertex.{Vertex}
use Rattle.gte_arithmetic.specs.Triples.{Wide}
use Rattle.gte_arithmetic.proofs.Flags.{or_assoc, or_none}
use Rattle.gte_division.specs.Division.{quotient, ratio_of}
use Rattle.gte_division.proofs.Quotients.{ratio_below}
use Rattle.gte_inputs.specs.Inputs.{Inputs}
use Rattle.gte_line.specs.Line.{cell_of}
use Rattle.gte_perspective.specs.Perspective.{exact_of, pair_of, coordinate_of, cue_of, cue_at, last_cue, on_screen, screen_checks, Shown}
use Rattle.gte_perspective.specs.Projection.{far_of, third_of, vertex_of, vertex_checks, InFront}
use Rattle.gte_perspective.specs.Vertices.{rotated, vertex_at, plain_of}
use Rattle.gte_perspective.specs.declared.projection.Front.{Front}
use Rattle.gte_perspective.specs.declared.projection.Third.{Third}
use Rattle.gte_perspective.specs.declared.screen.Factor.{Factor}
use Rattle.gte_perspective.specs.declared.screen.Screen.{Screen}
use Rattle.gte_results.specs.VertexEffects.{pushed_vertex, vertex_kept, vertices_left}

pub depth_small : (z : ℤ) → depth_of z < 65536
unfolding depth_of pos_part neg_part
depth_small z =
    let l = clamp_low (pos 0) (pos 0xffff) z (pos_nonneg 0xffff) in
    let u = clamp_high (pos 0) (pos 0xffff) z (pos_nonneg 0xffff) in
    omega (zarith, nat_abs_gap (clamp (pos 0) (pos 0xffff) z))

-- lines 5 to 7
pub screen_joined : (k : Camera) (sz : ℕ) (ir1 ir2 : ℤ)
    → let q = ratio_of k.h sz in
    let x = coordinate_of (exact_of q ir1 k.ofx) 0x4000 in
    let y = coordinate_of (exact_of q ir2 k.ofy) 0x2000 in
    let d = cue_of (exact_of q k.dqa k.dqb) in
    ◌≡◌ {A = Screen} (record { mac0 = d.mac0; xy = pair_of x.v y.v; ir0 = d.ir0; flag = or (raise (leb (2 * sz) k.h) 0x2_0000) (or x.flag (or y.flag d.flag)) }) (on_screen k sz ir1 ir2)
unfolding on_screen screen_checks flags mac0_flag
screen_joined k sz ir1 ir2 = simp (or_assoc, or_none)

-- all seven
pub vertex_joined : (sf : Bool) (s : Wide) (k : Camera)
    → let a = cell_of sf false 0x4000_0000 0x800_0000 0x100_0000 s.x in
    let b = cell_of sf false 0x2000_0000 0x400_0000 0x80_0000 s.y in
    let c = third_of sf s.z in
    let p = on_screen k c.sz a.ir b.ir in
    ◌≡◌ {A = Vertex} (record {
      mac0 = p.mac0;
      mac = record { x = a.mac; y = b.mac; z = c.mac };
      ir0 = p.ir0;
      ir = record { x = a.ir; y = b.ir; z = c.ir };
      sz = c.sz;
      xy = p.xy;
      flag = or a.flag (or b.flag (or c.flag p.flag));
    }) (vertex_of sf s k)
unfolding cell_of on_screen vertex_of vertex_checks flags sum_flag
vertex_joined sf s k = simp or_assoc

-- a vertex whose lines 1 to 6 set no bit
pub seen_vertex : (i : Inputs) (n : ℕ) (s : Wide) (k : Camera) (f : Front) (q xy : ℕ)
    → s ≡ rotated i n → k ≡ i.camera → q ≡ quotient k.h f.sz → InFront s k.h f → Shown q k f.x f.y xy
    → vertex_at true i n ≡ plain_of f xy (cue_at q k)
unfolding or
seen_vertex i n s k f q xy es ek eq a p =
    let third = a.third in
    rw (← es, ← ek)
    (sym (vertex_joined true s k)
    ∙ rw (
      a.first,
      a.second,
      ap (λ (t : Third). t.flag) third,
      ap (λ (t : Third). t.ir) third,
      ap (λ (t : Third). t.mac) third,
      ap (λ (t : Third). t.sz) third,
      ← screen_joined k f.sz f.x f.y,
      ratio_below k.h f.sz a.less,
      lt-leb (2 * f.sz) k.h a.less,
      ← eq,
      p.first,
      p.second,
      ← p.place,
    ))

-- what the division asks
pub front_divides : {s : Wide} {h : ℕ} {f : Front} → InFront s h f → (f.sz < 65536) × (h < 2 * f.sz)
front_divides {s} {h} {f} a = (rw (← ap (λ (t : Third). t.sz) a.third) (depth_small (far_of s.z)), a.less)

-- three such vertices: the queues take their points, and line 7 of the last one stays, with the flags of all
pub three_left : (w : List ℕ) (p q r : Vertex) (f g h : Front) (x y z : ℕ) (a b d : Factor)
    → p ≡ plain_of f x a → q ≡ plain_of g y b → r ≡ plain_of h z d
    → let e = last_cue a b d in
    vertex_kept (plain_of h z e) e.flag (pushed_vertex (plain_of h z e) (pushed_vertex (plain_of g y e) (pushed_vertex (plain_of f x e) w))) ≡ vertices_left p q r w
unfolding vertices_left vertex_kept pushed_vertex
three_left w p q r f g h x y z a b d ep eq er = rw (ep, eq, er)

-- Perspective transformation of one vertex (RTPS, and each part of RTPT): 001's seven lines, as fixed in 01. lm counts as 0.
use Rattle.std.specs.Prelude.{Bool, true, false, List, ◌∷◌, ◌≡◌, ℕ, ◌*◌, ◌^◌, ◌<◌, ℤ}
use Rattle.std.specs.Int.Signed.{shr_z}
use Rattle.integers.specs.Wrap.{wrap}
use Rattle.gte_arithmetic.specs.Checks.{Check, flags, or}
use Rattle.gte_arithmetic.specs.Values.{ir_range, depth_range, limit_flag, mac_of, ir_of, depth_of, sum_flag, sum_checks, ir_check, depth_check}
use Rattle.gte_arithmetic.specs.Triples.{Wide}
use Rattle.gte_arithmetic.specs.declared.values.Camera.{Camera}
use Rattle.gte_arithmetic.specs.declared.values.Vertex.{Vertex}
use Rattle.gte_line.specs.Line.{cell_of}
use Rattle.gte_perspective.specs.Perspective.{on_screen, screen_checks}
use Rattle.gte_perspective.specs.declared.projection.Front.{Front}
use Rattle.gte_perspective.specs.declared.projection.Third.{Third}

-- Z: the third sum of 44 bits shifted by 12, for either sf
unfoldable pub far_of : ℤ → ℤ
far_of x = shr_z (wrap (2 ^ 43) x) 4096

-- what lines 3 and 4 give. Bits 22 and 18 test Z, and IR3 sets no flag of its own.
abbrev pub third_of : Bool → ℤ → Third
third_of sf x =
    record {
      mac = mac_of sf x;
      ir = ir_of false (mac_of sf x);
      sz = depth_of (far_of x);
      flag = or (sum_flag 0x1000_0000 0x200_0000 x) (or (limit_flag (ir_range false) (far_of x) 0x40_0000) (limit_flag depth_range (far_of x) 0x4_0000));
    }

-- all seven lines. Bit 22 tests Z, and IR3 is limited from MAC3.
unfoldable pub vertex_checks : Bool → Wide → Camera → List Check
vertex_checks sf s k =
    sum_checks 1 1 s.x (ir_check 1 1 false (mac_of sf s.x)
    ∷ sum_checks 2 2 s.y (ir_check 2 2 false (mac_of sf s.y)
    ∷ sum_checks 3 3 s.z (ir_check 3 3 false (far_of s.z)
    ∷ depth_check 4 (far_of s.z)
    ∷ screen_checks k (depth_of (far_of s.z)) (ir_of false (mac_of sf s.x)) (ir_of false (mac_of sf s.y)))))

unfoldable pub vertex_of : Bool → Wide → Camera → Vertex
vertex_of sf s k =
    let p = on_screen k (depth_of (far_of s.z)) (ir_of false (mac_of sf s.x)) (ir_of false (mac_of sf s.y)) in
    record {
      mac0 = p.mac0;
      mac = record { x = mac_of sf s.x; y = mac_of sf s.y; z = mac_of sf s.z };
      ir0 = p.ir0;
      ir = record { x = ir_of false (mac_of sf s.x); y = ir_of false (mac_of sf s.y); z = ir_of false (mac_of sf s.z) };
      sz = depth_of (far_of s.z);
      xy = p.xy;
      flag = flags (vertex_checks sf s k);
    }

-- with sf = 1 lines 1 to 4 set no bit, the quotient does not overflow, and f has what they give: MAC1..3 and IR1..3 are the same
-- three values
pub record InFront (s : Wide) (h : ℕ) (f : Front) : Type 0 where
  pub first : cell_of true false 0x4000_0000 0x800_0000 0x100_0000 s.x ≡ record { mac = f.x; ir = f.x; flag = 0 }
  pub second : cell_of true false 0x2000_0000 0x400_0000 0x80_0000 s.y ≡ record { mac = f.y; ir = f.y; flag = 0 }
  pub third : third_of true s.z ≡ record { mac = f.z; ir = f.z; sz = f.sz; flag = 0 }
  pub less : h < 2 * f.sz

-- MAC3 and Z come from the same 44-bit sum; Z has 32 bits, so the word that bit 22 tests is Z itself.
use mathlib.Core.Path.{◌≡◌}
use mathlib.Core.Bool.{false}
use Prim.Native.Nat.{◌^◌}
use lib.Dec.{lit<}
use lib.IntN.{ℤ, pos, negsuc}
use mir.Syntax.{w16, w32, w64}
use mir.Facts.{to_z-of_z}
use Rattle.integers.specs.Bound.{back, mag_shr_div}
use Rattle.integers.specs.Clamp.{outside}
use Rattle.integers.specs.Wrap.{wrap, wrap_mag, wrap_fits}
use Rattle.gte_arithmetic.specs.Checks.{or, raise}
use Rattle.gte_arithmetic.specs.Values.{mac_of, ir_of, depth_of, sum_flag}
use Rattle.gte_perspective.specs.Projection.{far_of}
use Rattle.gte_perspective.proofs.projection.third_line_tested.Goals as goal

far_word : (x : ℤ) → wrap (2 ^ 31) (far_of x) ≡ far_of x
unfolding far_of
far_word x = wrap_fits (2 ^ 31) (mag_shr_div 4096 (2 ^ 31) tt (wrap_mag (2 ^ 43) x (lit< tt)))

pub returns : goal.returns
unfolding or mac_of far_of
returns c =
    let is_w : (let x = c.args.x in c.wrap_44-w.result ≡ record { v = wrap (2 ^ 43) x; flag = sum_flag 0x1000_0000 0x200_0000 x }) = rw (to_z-of_z c.ranges.x) at c.wrap_44-w.ensures in
    let is_m : c.cut-m.result ≡ mac_of c.args.sf c.args.x = rw (back w64 c.wrap_44-w.result.v c.struct_told-2-1.given.0.1, is_w) at c.cut-m.ensures in
    let is_i : (let m = mac_of c.args.sf c.args.x in c.limit_ir-i.result ≡ record { v = ir_of false m; flag = raise (outside (negsuc 0x7fff) (pos 0x7fff) m) 0 }) = rw (back w32 c.cut-m.result c.cut-m.type_inv, is_m) at c.limit_ir-i.ensures in
    let is_z : c.shift_down-z.result ≡ far_of c.args.x = rw (back w64 c.wrap_44-w.result.v c.struct_told-1.given.0.1, is_w) at c.shift_down-z.ensures in
    let is_f : (let z = far_of c.args.x in c.limit_ir-f.result ≡ record { v = ir_of false z; flag = raise (outside (negsuc 0x7fff) (pos 0x7fff) z) 0x40_0000 }) = rw (
      back w32 c.low_signed.result c.low_signed.type_inv,
      c.low_signed.ensures,
      back w64 c.shift_down-z.result c.shift_down-z.type_inv,
      is_z,
      far_word c.args.x,
    ) at c.limit_ir-f.ensures in
    let is_s : (let z = far_of c.args.x in c.limit_depth-s.result ≡ record { v = depth_of z; flag = raise (outside (pos 0) (pos 0xffff) z) 0x4_0000 }) = rw (back w64 c.shift_down-z.result c.shift_down-z.type_inv, is_z) at c.limit_depth-s.ensures in
    rw (
      back w32 c.cut-m.result c.cut-m.type_inv,
      back w16 c.limit_ir-i.result.v c.struct_told-3-1.given.0.1,
      is_m,
      is_i,
      is_s,
      is_w,
      is_f,
    )

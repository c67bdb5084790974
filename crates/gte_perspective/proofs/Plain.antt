-- Values in range: nothing wraps, nothing is limited, and no bit is set.
use mathlib.Core.Bool.{Bool, true, false}
use mathlib.Core.Path.{◌≡◌}
use Prim.Native.Nat.{ℕ, ◌^◌, ◌<◌}
use native.Mathlib.Omega.{arith}
use lib.Dec.{T, lit≤}
use lib.IntN.{ℤ, pos, negsuc, nat_abs}
use lib.Signed.{non_neg, shr_z, ◌≤ℤ◌}
use mir.Syntax.{w32}
use mir.Val.{Fits}
use Rattle.integers.specs.Bits.{unsign}
use Rattle.integers.specs.Bound.{mag_le, mag_pos, mag_negsuc, mag_between}
use Rattle.integers.specs.Clamp.{outside, inside, clamp_in, clamp_clear}
use Rattle.integers.specs.Parts.{pos_part, neg_part, zarith, Mag, nat_abs_gap, no_lt}
use Rattle.integers.specs.Wrap.{wrap_fits}
use Rattle.gte_arithmetic.specs.Values.{ir_of, depth_of, screen_of, factor_of}
use Rattle.gte_arithmetic.specs.declared.values.Checked.{Checked}
use Rattle.gte_arithmetic.proofs.Flags.{or_none}
use Rattle.gte_line.proofs.Plain.{by_4096, by_65536, ir_mag, wrap_none, sum_none, mac0_none, mac_plain}
use Rattle.gte_perspective.specs.Perspective.{coordinate_of, cue_of}
use Rattle.gte_perspective.specs.Projection.{far_of, third_of}
use Rattle.gte_perspective.specs.declared.projection.Third.{Third}
use Rattle.gte_perspective.specs.declared.screen.Factor.{Factor}

-- ---- a number in 0..hi: what the cast to a word asks
pub level_unsigned : (hi : ℕ) (z : ℤ) → hi < 2 ^ 32 → outside (pos 0) (pos hi) z ≡ false → T (non_neg z) × Fits w32 (nat_abs z)
unfolding pos_part neg_part
level_unsigned hi z l e =
    let k = inside (pos 0) (pos hi) z e in
    let u = k.1 in
    unsign w32 z k.0 (omega zarith)

-- ---- lines 3 and 4: a depth of 0..7FFFh is stored whole in MAC3, IR3 and SZ3, from a sum far from the ends of 44 bits
far : (x : ℤ) → Mag x 134217728 → far_of x ≡ shr_z x 4096
unfolding far_of
far x m = rw (wrap_none x m)

low : (z : ℤ) → pos 0 ≤ℤ z → negsuc 0x7fff ≤ℤ z
unfolding pos_part neg_part
low z h = omega zarith

high : (z : ℤ) → z ≤ℤ pos 0x7fff → z ≤ℤ pos 0xffff
unfolding pos_part neg_part
high z h = omega zarith

pub third_plain : (x : ℤ) → outside (pos 0) (pos 0x7fff) (shr_z x 4096) ≡ false → ◌≡◌ {A = Third} (record { mac = shr_z x 4096; ir = shr_z x 4096; sz = nat_abs (shr_z x 4096); flag = 0 }) (third_of true x)
unfolding ir_of depth_of
third_plain x e =
    let k = inside (pos 0) (pos 0x7fff) (shr_z x 4096) e in
    let m = ir_mag true (shr_z x 4096) e in
    let l = low (shr_z x 4096) k.0 in
    let h = high (shr_z x 4096) k.1 in
    rw (mac_plain true x m, far x (by_4096 x m), sum_none 0x1000_0000 0x200_0000 x (by_4096 x m), clamp_in l k.1, clamp_in k.0 h, no_lt l, no_lt k.1, no_lt k.0, no_lt h, or_none 0, or_none 0)

-- ---- lines 5 and 6: a coordinate on the screen is not limited, and its exact value is far from the ends of MAC0
pub screen_mag : (z : ℤ) → outside (negsuc 0x3ff) (pos 0x3ff) z ≡ false → Mag z 1024
screen_mag z e = let k = inside (negsuc 0x3ff) (pos 0x3ff) z e in mag_between z (mag_negsuc 0x3ff) (mag_pos 0x3ff) k.0 k.1

pub coordinate_plain : (bit : ℕ) (x : ℤ) → outside (negsuc 0x3ff) (pos 0x3ff) (shr_z x 65536) ≡ false → ◌≡◌ {A = Checked ℤ} (record { v = shr_z x 65536; flag = 0 }) (coordinate_of x bit)
unfolding screen_of
coordinate_plain bit x e = rw (clamp_clear (negsuc 0x3ff) (pos 0x3ff) (shr_z x 65536) e, mac0_none x (mag_le (by_65536 x (screen_mag _ e)) (lit≤ tt)), e, or_none 0)

-- ---- line 7: an IR0 in range is not limited, and its exact value is far from the ends of MAC0
pub factor_mag : (z : ℤ) → outside (pos 0) (pos 0x1000) z ≡ false → Mag z 32768
factor_mag z e = let k = inside (pos 0) (pos 0x1000) z e in mag_between z (mag_le (mag_pos 0) (lit≤ tt)) (mag_le (mag_pos 0x1000) (lit≤ tt)) k.0 k.1

pub cue_plain : (x : ℤ) → outside (pos 0) (pos 0x1000) (shr_z x 4096) ≡ false → ◌≡◌ {A = Factor} (record { mac0 = x; ir0 = nat_abs (shr_z x 4096); flag = 0 }) (cue_of x)
unfolding factor_of
cue_plain x e =
    let m = by_4096 x (factor_mag _ e) in
    rw (wrap_fits (2 ^ 31) (mag_le m (lit≤ tt)), clamp_clear (pos 0) (pos 0x1000) (shr_z x 4096) e, mac0_none x m, e, or_none 0)

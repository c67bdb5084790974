-- Values in range: nothing wraps, nothing is limited, and no bit is set.
use mathlib.Core.Bool.{Bool, true, false}
use mathlib.Core.Path.{◌≡◌}
use Prim.Native.Nat.{ℕ, ◌^◌, ◌-◌}
use lib.Dec.{lit<, lit≤}
use lib.IntN.{ℤ, pos, negsuc}
use lib.Signed.{shr_z, lt_z}
use Rattle.integers.specs.Bound.{mag_pos, mag_negsuc, mag_le, mag_between}
use Rattle.integers.specs.Clamp.{clamp_clear, outside, inside}
use Rattle.integers.specs.Floor.{shr_low, shr_high}
use Rattle.integers.specs.Parts.{pos_part, neg_part, zarith, Mag, no_lt}
use Rattle.integers.specs.Wrap.{wrap, wrap_fits}
use Rattle.gte_line.specs.Line.{cell_of}
use Rattle.gte_arithmetic.specs.Values.{scale, lowest, mac_of, ir_of, sum_flag, mac0_flag}
use Rattle.gte_line.specs.declared.Cell.{Cell}
use Rattle.gte_arithmetic.proofs.Flags.{or_none}

-- ---- a value from its quotient
pub by_4096 : (x : ℤ) → Mag (shr_z x 4096) 32768 → Mag x 134217728
by_4096 x m = omega (zarith, shr_low x 4096 (lit< tt), shr_high x 4096 (lit< tt))

pub by_65536 : (x : ℤ) → Mag (shr_z x 65536) 1024 → Mag x 67108864
by_65536 x m = omega (zarith, shr_low x 65536 (lit< tt), shr_high x 65536 (lit< tt))

by_1 : (x : ℤ) → Mag (shr_z x 1) 32768 → Mag x 134217728
by_1 x m = omega (zarith, shr_low x 1 (lit< tt), shr_high x 1 (lit< tt))

by_scale : (sf : Bool) (x : ℤ) → Mag (shr_z x (scale sf)) 32768 → Mag x 134217728
by_scale true x m = by_4096 x m
by_scale false x m = by_1 x m

-- ---- the tests of sums
pub sum_none : (over under : ℕ) (x : ℤ) → Mag x 134217728 → sum_flag over under x ≡ 0
unfolding sum_flag pos_part neg_part
sum_none over under x m =
    let a : lt_z (pos (2 ^ 43 - 1)) x ≡ false = no_lt {a = pos (2 ^ 43 - 1)} {b = x} (omega zarith) in
    let b : lt_z x (negsuc (2 ^ 43 - 1)) ≡ false = no_lt {a = x} {b = negsuc (2 ^ 43 - 1)} (omega zarith) in
    rw (a, b) (or_none 0)

pub mac0_none : (x : ℤ) → Mag x 134217728 → mac0_flag x ≡ 0
unfolding mac0_flag pos_part neg_part
mac0_none x m =
    let a : lt_z (pos (2 ^ 31 - 1)) x ≡ false = no_lt {a = pos (2 ^ 31 - 1)} {b = x} (omega zarith) in
    let b : lt_z x (negsuc (2 ^ 31 - 1)) ≡ false = no_lt {a = x} {b = negsuc (2 ^ 31 - 1)} (omega zarith) in
    rw (a, b) (or_none 0)

-- ---- MAC1..3
pub wrap_none : (x : ℤ) → Mag x 134217728 → wrap (2 ^ 43) x ≡ x
wrap_none x m = wrap_fits (2 ^ 43) (mag_le m (lit≤ tt))

pub mac_plain : (sf : Bool) (x : ℤ) → Mag (shr_z x (scale sf)) 32768 → mac_of sf x ≡ shr_z x (scale sf)
unfolding mac_of
mac_plain sf x m = rw (wrap_none x (by_scale sf x m)) (wrap_fits (2 ^ 31) (mag_le m (lit≤ tt)))

pub ir_mag : (lm : Bool) (m : ℤ) → outside (lowest lm) (pos 0x7fff) m ≡ false → Mag m 32768
ir_mag true m e = let k = inside (pos 0) (pos 0x7fff) m e in mag_between m (mag_le (mag_pos 0) (lit≤ tt)) (mag_pos 0x7fff) k.0 k.1
ir_mag false m e = let k = inside (negsuc 0x7fff) (pos 0x7fff) m e in mag_between m (mag_negsuc 0x7fff) (mag_pos 0x7fff) k.0 k.1

-- what one of the three values leaves
pub cell_plain : (sf lm : Bool) (over under bit : ℕ) (x : ℤ) → outside (lowest lm) (pos 0x7fff) (shr_z x (scale sf)) ≡ false → ◌≡◌ {A = Cell} (record { mac = shr_z x (scale sf); ir = shr_z x (scale sf); flag = 0 }) (cell_of sf lm over under bit x)
unfolding cell_of ir_of
cell_plain sf lm over under bit x e =
    let m = ir_mag lm (shr_z x (scale sf)) e in
    rw (mac_plain sf x m, clamp_clear (lowest lm) (pos 0x7fff) (shr_z x (scale sf)) e, sum_none over under x (by_scale sf x m), e, or_none 0)

-- The flags are those of the checks.
use mathlib.Core.Path.{◌≡◌}
use Prim.Native.Nat.{ℕ, ◌^◌}
use lib.IntN.{ℤ, pos, ◌*ℤ◌}
use lib.Signed.{shr_z}
use mir.Syntax.{w32, w64}
use mir.Facts.{to_z-of_z}
use Rattle.integers.specs.Bound.{back}
use Rattle.integers.specs.Clamp.{outside}
use Rattle.integers.specs.Wrap.{wrap}
use Rattle.gte_arithmetic.specs.Checks.{or, raise, flags}
use Rattle.gte_arithmetic.specs.Values.{depth_of, mac0_flag}
use Rattle.gte_arithmetic.proofs.Flags.{or_assoc, or_none}
use Rattle.gte_depth.specs.Depth.{average_of, average_checks}
use Rattle.gte_arithmetic.specs.declared.values.Average.{Average}
use Rattle.gte_depth.proofs.values.average_depth.Goals as goal

joined : (k : ℤ) (n : ℕ)
    → let x = k *ℤ pos n in
    ◌≡◌ {A = Average} (record { mac0 = wrap (2 ^ 31) x; otz = depth_of (shr_z x 4096); flag = or (mac0_flag x) (raise (outside (pos 0) (pos 0xffff) (shr_z x 4096)) 0x4_0000) }) (average_of k n)
unfolding average_of average_checks flags mac0_flag
joined k n = simp (or_assoc, or_none)

pub returns : goal.returns
unfolding or
returns c = let x = back w64 c.weighed-x.result c.weighed-x.type_inv in
    rw (
      back w32 c.store_mac0-m.result.v c.struct_told-1.given.0.1,
      c.store_mac0-m.ensures,
      c.limit_depth-z.ensures,
      back w64 c.shift_down.result c.shift_down.type_inv,
      c.shift_down.ensures,
      x,
      c.weighed-x.ensures,
      to_z-of_z c.ranges.zsf,
    ) (joined c.args.zsf c.args.total)

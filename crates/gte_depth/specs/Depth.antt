-- Normal clipping and the average of depths: the commands that leave one value in MAC0.
use Rattle.std.specs.Prelude.{List, [], ◌∷◌, ℕ, ◌^◌, ℤ, pos, ◌+ℤ◌, ◌-ℤ◌, ◌*ℤ◌}
use Rattle.std.specs.Int.Signed.{shr_z}
use Rattle.integers.specs.Wrap.{wrap}
use Rattle.gte_arithmetic.specs.Checks.{Check, flags}
use Rattle.gte_arithmetic.specs.Values.{depth_of, mac0_checks, depth_check}
use Rattle.gte_arithmetic.specs.declared.values.Average.{Average}
use Rattle.gte_arithmetic.specs.declared.values.Corner.{Corner}

-- NCLIP: SX0-as-SY1 + SX1-as-SY2 + SX2-as-SY0 - SX0-as-SY2 - SX1-as-SY0 - SX2-as-SY1
unfoldable pub winding_of : Corner → Corner → Corner → ℤ
winding_of a b c = a.x *ℤ b.y +ℤ b.x *ℤ c.y +ℤ c.x *ℤ a.y -ℤ a.x *ℤ c.y -ℤ b.x *ℤ a.y -ℤ c.x *ℤ b.y

-- AVSZ3 and AVSZ4: a scale factor times a sum of depths; `line` is 1 or 2, and OTZ stands on line 3
unfoldable pub average_checks : ℕ → ℤ → List Check
average_checks line x = mac0_checks line x (depth_check 3 (shr_z x 4096) ∷ [])

unfoldable pub average_of : ℤ → ℕ → Average
average_of zsf total =
    let x = zsf *ℤ pos total in
    record { mac0 = wrap (2 ^ 31) x; otz = depth_of (shr_z x 4096); flag = flags (average_checks 0 x) }

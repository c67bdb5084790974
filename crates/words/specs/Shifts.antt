-- Shifts of signed words.
use Rattle.std.specs.Prelude.{ℕ, ◌%◌, ◌^◌}
use Rattle.std.specs.Int.Signed.{shr_z}
use Rattle.std.specs.Int.{w32}
use mir.Val.{to_z, of_z}

-- SRA and SRAV, 01 "SRA and the signed product keep the sign": the signed value divided by a power of two, rounded down.
-- The amount is the low five bits.
unfoldable pub sra_of : ℕ → ℕ → ℕ
sra_of x amount = of_z w32 (shr_z (to_z w32 x) (2 ^ (amount % 32)))

-- Signed arithmetic on words (01 "One step"). a and b are words; `to_z w32` is the signed value of one.
use Rattle.std.specs.Prelude.{ℕ, ◌-◌, ◌^◌, cond, Option, None, Some, ℤ, pos, negsuc, ◌+ℤ◌, ◌-ℤ◌, int_lt}
use Rattle.std.specs.Int.{w32}
use Rattle.std.proofs.Common.{to_z}
use Rattle.integers.specs.Floor.{mod_z}
use Rattle.integers.specs.Clamp.{outside}

-- ADD, ADDI and SUB trap where the exact signed result does not fit 32 bits
abbrev pub or_overflow : ℤ → Option ℕ
or_overflow z = cond (outside (negsuc 0x7fff_ffff) (pos 0x7fff_ffff) z) None (Some (mod_z z (2 ^ 32)))

unfoldable pub sum_of : ℕ → ℕ → Option ℕ
sum_of a b = or_overflow (to_z w32 a +ℤ to_z w32 b)

unfoldable pub difference_of : ℕ → ℕ → Option ℕ
difference_of a b = or_overflow (to_z w32 a -ℤ to_z w32 b)

-- SLT and SLTI
unfoldable pub less_of : ℕ → ℕ → ℕ
less_of a b = cond (int_lt (to_z w32 a) (to_z w32 b)) 1 0

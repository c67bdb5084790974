-- The one quotient of two words that does not fit 32 signed bits.
use Rattle.std.proofs.Common.{refl}
use Rattle.integers.specs.Floor.{mod_z}
use Rattle.cpu_alu.specs.MulDiv.{quotient_of, LeastByMinusOne}

pub least_by_minus_one : LeastByMinusOne
unfolding quotient_of mod_z
least_by_minus_one = refl

-- What NCLIP, AVSZ3 and AVSZ4 write, and nothing else.
use Rattle.std.specs.Prelude.{List, [], ℕ, ◌^◌, ℤ, set}
use Rattle.std.specs.Int.{w32}
use Rattle.std.proofs.Common.{of_z}
use Rattle.integers.specs.Wrap.{wrap}
use Rattle.gte_arithmetic.specs.Checks.{flags}
use Rattle.gte_arithmetic.specs.Values.{mac0_checks}
use Rattle.gte_arithmetic.specs.declared.values.Average.{Average}
use Rattle.gte_results.specs.Effects.{flagged}

-- NCLIP, and AVSZ3 and AVSZ4
unfoldable pub winding_left : ℤ → List ℕ → List ℕ
winding_left x w = flagged (flags (mac0_checks 1 x [])) (set w 24 (of_z w32 (wrap (2 ^ 31) x)))

unfoldable pub average_left : Average → List ℕ → List ℕ
average_left a w = flagged a.flag (set (set w 24 (of_z w32 a.mac0)) 7 a.otz)

-- NCCS and NCCT: the values and the checks that they make, from what they read (001's formulas as fixed in 01). Line numbers are
-- those of 001's formula of the command. NCCT is its part at k = 0, 1 and 2.
use Rattle.std.specs.Prelude.{Bool, List, ℕ}
use Rattle.gte_arithmetic.specs.Checks.{Check}
use Rattle.gte_colour.specs.Shade.{shade_checks}
use Rattle.gte_arithmetic.specs.declared.values.Shade.{Shade}
use Rattle.gte_inputs.specs.Inputs.{Inputs}
use Rattle.gte_colour.specs.Cueing.{shade_with, plain_end}
use Rattle.gte_colour.specs.Lights.{normal_tones, normal_checks}

abbrev pub nccs_checks : Bool → Bool → Inputs → ℕ → List Check
nccs_checks sf lm i k = normal_checks sf lm i k (shade_checks 5 6 sf lm (normal_tones sf lm i k))

unfoldable pub nccs_of : Bool → Bool → Inputs → ℕ → Shade
nccs_of sf lm i k = shade_with (nccs_checks sf lm i k) (plain_end sf lm i (normal_tones sf lm i k))

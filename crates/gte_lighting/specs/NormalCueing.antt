-- NCDS and NCDT: the values and the checks that they make, from what they read (001's formulas as fixed in 01). Line numbers are
-- those of 001's formula of the command. NCDT is its part at k = 0, 1 and 2.
use Rattle.std.specs.Prelude.{Bool, List, ℕ}
use Rattle.gte_arithmetic.specs.Checks.{Check}
use Rattle.gte_arithmetic.specs.declared.values.Shade.{Shade}
use Rattle.gte_inputs.specs.Inputs.{Inputs}
use Rattle.gte_colour.specs.Cueing.{shade_with, cued_checks, cued_end}
use Rattle.gte_colour.specs.Lights.{normal_tones, normal_checks}

abbrev pub ncds_checks : Bool → Bool → Inputs → ℕ → List Check
ncds_checks sf lm i k = normal_checks sf lm i k (cued_checks 4 5 6 sf lm i (normal_tones sf lm i k))

unfoldable pub ncds_of : Bool → Bool → Inputs → ℕ → Shade
ncds_of sf lm i k = shade_with (ncds_checks sf lm i k) (cued_end sf lm i (normal_tones sf lm i k))

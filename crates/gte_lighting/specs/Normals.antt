-- NCS and NCT: the values and the checks that they make, from what they read (001's formulas as fixed in 01). Line numbers are
-- those of 001's formula of the command. NCT is its part at k = 0, 1 and 2.
use Rattle.std.specs.Prelude.{Bool, List, [], ◌∷◌, ◌++◌, ℕ}
use Rattle.gte_arithmetic.specs.Checks.{Check}
use Rattle.gte_arithmetic.specs.Values.{mac_of, ir_check, colour_check}
use Rattle.gte_line.specs.Line.{line_checks}
use Rattle.gte_arithmetic.specs.Triples.{Wide}
use Rattle.gte_arithmetic.specs.declared.values.Shade.{Shade}
use Rattle.gte_inputs.specs.Inputs.{Inputs}
use Rattle.gte_colour.specs.Cueing.{shade_with, plain_end}
use Rattle.gte_colour.specs.Lights.{back_sums, light_sums, lit_ir}

-- NCS, NCT: IR is limited from the same MAC on line 2 and on line 6
unfoldable pub last_checks : ℕ → Bool → Bool → Wide → List Check
last_checks m sf lm s =
    ir_check 1 m lm (mac_of sf s.x) ∷ colour_check 1 m (mac_of sf s.x)
    ∷ ir_check 2 m lm (mac_of sf s.y) ∷ colour_check 2 m (mac_of sf s.y)
    ∷ ir_check 3 m lm (mac_of sf s.z) ∷ colour_check 3 m (mac_of sf s.z) ∷ []

unfoldable pub ncs_checks : Bool → Bool → Inputs → ℕ → List Check
ncs_checks sf lm i k =
    let t = back_sums i (lit_ir sf lm i k) in
    line_checks 1 sf lm (light_sums i k) ++ (line_checks 2 sf lm t ++ last_checks 6 sf lm t)

unfoldable pub ncs_of : Bool → Bool → Inputs → ℕ → Shade
ncs_of sf lm i k = shade_with (ncs_checks sf lm i k) (plain_end sf lm i (back_sums i (lit_ir sf lm i k)))

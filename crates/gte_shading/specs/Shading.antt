-- CC and CDP: the values of each and the checks that it makes, from what it reads (001's formulas as fixed in 01). Line numbers
-- are those of 001's formula of the command.
use Rattle.std.specs.Prelude.{Bool, List, ◌++◌}
use Rattle.gte_arithmetic.specs.Checks.{Check}
use Rattle.gte_line.specs.Line.{line_checks}
use Rattle.gte_arithmetic.specs.Triples.{Wide}
use Rattle.gte_sums.specs.Tones.{tones_of}
use Rattle.gte_colour.specs.Shade.{shade_checks}
use Rattle.gte_arithmetic.specs.declared.values.Shade.{Shade}
use Rattle.gte_inputs.specs.Inputs.{Inputs}
use Rattle.gte_colour.specs.Cueing.{shade_with, plain_end, cued_checks, cued_end}
use Rattle.gte_colour.specs.Lights.{back_sums, back_ir}

-- CC and CDP start from IR as it stands
abbrev pub ir_tones : Bool → Bool → Inputs → Wide
ir_tones sf lm i = tones_of i.rgbc (back_ir sf lm i i.ir)

abbrev pub cc_checks : Bool → Bool → Inputs → List Check
cc_checks sf lm i = line_checks 1 sf lm (back_sums i i.ir) ++ shade_checks 4 5 sf lm (ir_tones sf lm i)

unfoldable pub cc_of : Bool → Bool → Inputs → Shade
cc_of sf lm i = shade_with (cc_checks sf lm i) (plain_end sf lm i (ir_tones sf lm i))

abbrev pub cdp_checks : Bool → Bool → Inputs → List Check
cdp_checks sf lm i = line_checks 1 sf lm (back_sums i i.ir) ++ cued_checks 3 4 5 sf lm i (ir_tones sf lm i)

unfoldable pub cdp_of : Bool → Bool → Inputs → Shade
cdp_of sf lm i = shade_with (cdp_checks sf lm i) (cued_end sf lm i (ir_tones sf lm i))

-- GPF and GPL: the values of each and the checks that it makes, from what it reads (001's formulas as fixed in 01). Line numbers
-- are those of 001's formula of the command.
use Rattle.std.specs.Prelude.{Bool}
use Rattle.gte_arithmetic.specs.Triples.{Wide}
use Rattle.gte_sums.specs.Products.{scaled_of, scaled_from}
use Rattle.gte_colour.specs.Shade.{shade_checks}
use Rattle.gte_arithmetic.specs.declared.values.Shade.{Shade}
use Rattle.gte_inputs.specs.Inputs.{Inputs}
use Rattle.gte_colour.specs.Cueing.{shade_with, plain_end}

-- GPF and GPL: MAC on line 3, the FIFO and IR on line 4
abbrev pub gpf_from : Inputs → Wide
gpf_from i = scaled_of i.ir i.ir0

abbrev pub gpl_from : Bool → Inputs → Wide
gpl_from sf i = scaled_from i.ir i.ir0 i.mac sf

unfoldable pub gpf_of : Bool → Bool → Inputs → Shade
gpf_of sf lm i = shade_with (shade_checks 3 4 sf lm (gpf_from i)) (plain_end sf lm i (gpf_from i))

unfoldable pub gpl_of : Bool → Bool → Inputs → Shade
gpl_of sf lm i = shade_with (shade_checks 3 4 sf lm (gpl_from sf i)) (plain_end sf lm i (gpl_from sf i))

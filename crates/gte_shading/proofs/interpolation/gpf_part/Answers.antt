-- The end from the products.
use mathlib.Core.Path.{◌≡◌}
use mathlib.Core.Bool.{Bool}
use mir.Syntax.{w16}
use Rattle.integers.specs.Bound.{back}
use Rattle.gte_sums.specs.Products.{scaled_of}
use Rattle.gte_colour.specs.Shade.{shade_of}
use Rattle.gte_inputs.specs.Inputs.{Inputs, inputs_of}
use Rattle.gte_shading.specs.Interpolation.{gpf_of}
use Rattle.gte_colour.proofs.CueingLines.{shade_flags, code}
use Rattle.gte_shading.proofs.interpolation.gpf_part.Goals as goal

joined : (sf lm : Bool) (i : Inputs) → shade_of sf lm i.rgbc (scaled_of i.ir i.ir0) ≡ gpf_of sf lm i
unfolding shade_of gpf_of
joined sf lm i = rw (shade_flags 3 4 sf lm (scaled_of i.ir i.ir0))

pub returns : goal.returns
returns c =
    let a = c.args in
    rw (c.finish_colour.ensures, c.scaled.ensures.is, back w16 c.ir0.result c.ir0.type_inv, c.ir0.ensures, c.ir.ensures, code a.c.now) (joined a.sf a.lm (inputs_of a.c.now))

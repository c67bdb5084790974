-- Line 1, then the end from the colour by its IR.
use mathlib.Core.Path.{◌≡◌}
use mathlib.Core.Bool.{Bool}
use Rattle.gte_line.specs.Line.{line_of}
use Rattle.gte_sums.specs.Tones.{tones_of}
use Rattle.gte_colour.specs.Shade.{shade_of, shade_checks}
use Rattle.gte_inputs.specs.Inputs.{Inputs, inputs_of}
use Rattle.gte_colour.specs.Lights.{back_sums}
use Rattle.gte_shading.specs.Shading.{ir_tones, cc_of}
use Rattle.gte_colour.proofs.LightsLines.{after_line}
use Rattle.gte_colour.proofs.CueingLines.{shade_flags, code, with_flag}
use Rattle.gte_shading.proofs.colours.cc_part.Goals as goal

joined : (sf lm : Bool) (i : Inputs)
    → let b = line_of sf lm (back_sums i i.ir) in
    let s = shade_of sf lm i.rgbc (tones_of i.rgbc b.ir) in
    with_flag b.flag s ≡ cc_of sf lm i
unfolding line_of shade_of cc_of
joined sf lm i =
    let t = ir_tones sf lm i in
    rw (after_line 1 sf lm (back_sums i i.ir) (shade_checks 4 5 sf lm t), shade_flags 4 5 sf lm t)

pub returns : goal.returns
returns c =
    let a = c.args in
    rw (c.with_flag.ensures, c.finish_colour.ensures, c.tones.ensures.is, c.finish-b.ensures, c.back_sums.ensures.is, c.ir.ensures, code a.c.now) (joined a.sf a.lm (inputs_of a.c.now))

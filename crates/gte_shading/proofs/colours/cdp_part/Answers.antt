-- Line 1, then the depth cue of the colour by its IR.
use mathlib.Core.Path.{◌≡◌}
use mathlib.Core.Bool.{Bool}
use Rattle.gte_line.specs.Line.{line_of}
use Rattle.gte_sums.specs.Tones.{tones_of}
use Rattle.gte_inputs.specs.Inputs.{Inputs, inputs_of}
use Rattle.gte_colour.specs.Cueing.{cued_checks, depth_cued}
use Rattle.gte_colour.specs.Lights.{back_sums}
use Rattle.gte_shading.specs.Shading.{ir_tones, cdp_of}
use Rattle.gte_colour.proofs.LightsLines.{after_line}
use Rattle.gte_colour.proofs.CueingLines.{cued_flags, code, with_flag}
use Rattle.gte_shading.proofs.colours.cdp_part.Goals as goal

joined : (sf lm : Bool) (i : Inputs)
    → let b = line_of sf lm (back_sums i i.ir) in
    let s = depth_cued sf lm i (tones_of i.rgbc b.ir) in
    with_flag b.flag s ≡ cdp_of sf lm i
unfolding line_of depth_cued cdp_of
joined sf lm i =
    let t = ir_tones sf lm i in
    rw (after_line 1 sf lm (back_sums i i.ir) (cued_checks 3 4 5 sf lm i t), cued_flags 3 4 5 sf lm i t, cued_flags 4 5 6 sf lm i t)

pub returns : goal.returns
returns c =
    let a = c.args in
    rw (c.with_flag.ensures, c.cue.ensures, c.tones.ensures.is, c.finish-b.ensures, c.back_sums.ensures.is, c.ir.ensures, code a.c.now) (joined a.sf a.lm (inputs_of a.c.now))

-- The blend and its flags, then the end.
use mathlib.Core.Path.{◌≡◌}
use mathlib.Core.Bool.{Bool}
use mir.Syntax.{w16}
use Rattle.integers.specs.Bound.{back}
use Rattle.gte_arithmetic.specs.Triples.{Wide}
use Rattle.gte_colour.specs.Shade.{mixed_of, shade_of}
use Rattle.gte_inputs.specs.Inputs.{Inputs, inputs_of}
use Rattle.gte_colour.specs.Cueing.{depth_cued}
use Rattle.gte_colour.proofs.CueingLines.{cued_flags, code, with_flag}
use Rattle.gte_colour.proofs.cueing.cue.Goals as goal

joined : (sf lm : Bool) (i : Inputs) (t : Wide)
    → let m = mixed_of sf i.fc i.ir0 t in
    let s = shade_of sf lm i.rgbc m.v in
    with_flag m.flag s ≡ depth_cued sf lm i t
unfolding mixed_of shade_of depth_cued
joined sf lm i t = rw (cued_flags 4 5 6 sf lm i t)

pub returns : goal.returns
returns c =
    let a = c.args in
    rw (
      c.with_flag.ensures,
      c.finish_colour.ensures,
      c.mix-m.ensures.is,
      back w16 c.ir0.result c.ir0.type_inv,
      c.ir0.ensures,
      c.far_colour.ensures,
      code a.c.now,
    ) (joined a.sf a.lm (inputs_of a.c.now) a.t)

-- Lines 1 and 2, then the end from the colour by their IR.
use mathlib.Core.Path.{◌≡◌}
use mathlib.Core.Bool.{Bool}
use Prim.Native.Nat.{ℕ}
use Rattle.gte_sums.specs.Tones.{tones_of}
use Rattle.gte_colour.specs.Shade.{shade_of, shade_checks}
use Rattle.gte_inputs.specs.Inputs.{Inputs, inputs_of}
use Rattle.gte_lighting.specs.NormalColours.{nccs_of}
use Rattle.gte_colour.specs.Lights.{normal_tones, normal_line}
use Rattle.gte_colour.proofs.Normal.{normal_flags}
use Rattle.gte_colour.proofs.CueingLines.{shade_flags, code, with_flag}
use Rattle.gte_lighting.proofs.normal_colours.nccs_part.Goals as goal

joined : (sf lm : Bool) (i : Inputs) (k : ℕ)
    → let b = normal_line sf lm i k in
    let s = shade_of sf lm i.rgbc (tones_of i.rgbc b.ir) in
    with_flag b.flag s ≡ nccs_of sf lm i k
unfolding normal_line shade_of nccs_of
joined sf lm i k =
    let t = normal_tones sf lm i k in
    rw (normal_flags sf lm i k (shade_checks 5 6 sf lm t), shade_flags 5 6 sf lm t)

pub returns : goal.returns
returns c =
    let a = c.args in
    rw (c.with_flag.ensures, c.finish_colour.ensures, c.tones.ensures.is, c.normal_line-b.ensures, code a.c.now) (joined a.sf a.lm (inputs_of a.c.now) a.k)

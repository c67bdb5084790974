-- Lines 1 and 2, then the depth cue of the colour by their IR.
use mathlib.Core.Path.{◌≡◌}
use mathlib.Core.Bool.{Bool}
use Prim.Native.Nat.{ℕ}
use Rattle.gte_sums.specs.Tones.{tones_of}
use Rattle.gte_inputs.specs.Inputs.{Inputs, inputs_of}
use Rattle.gte_lighting.specs.NormalCueing.{ncds_of}
use Rattle.gte_colour.specs.Lights.{normal_tones, normal_line}
use Rattle.gte_colour.specs.Cueing.{cued_checks, depth_cued}
use Rattle.gte_colour.proofs.Normal.{normal_flags}
use Rattle.gte_colour.proofs.CueingLines.{code, with_flag}
use Rattle.gte_lighting.proofs.normal_cueing.ncds_part.Goals as goal

joined : (sf lm : Bool) (i : Inputs) (k : ℕ)
    → let b = normal_line sf lm i k in
    let s = depth_cued sf lm i (tones_of i.rgbc b.ir) in
    with_flag b.flag s ≡ ncds_of sf lm i k
unfolding normal_line depth_cued ncds_of
joined sf lm i k = rw (normal_flags sf lm i k (cued_checks 4 5 6 sf lm i (normal_tones sf lm i k)))

pub returns : goal.returns
returns c =
    let a = c.args in
    rw (c.with_flag.ensures, c.cue.ensures, c.tones.ensures.is, c.normal_line-b.ensures, code a.c.now) (joined a.sf a.lm (inputs_of a.c.now) a.k)

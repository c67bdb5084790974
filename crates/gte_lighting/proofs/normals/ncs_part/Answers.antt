-- Line 1, then the end from the sums of line 2, whose IR is limited twice from the same MAC.
use mathlib.Core.Path.{◌≡◌}
use mathlib.Core.Bool.{Bool}
use mathlib.Core.List.{◌++◌}
use Prim.Native.Nat.{ℕ}
use Rattle.gte_line.specs.Line.{line_of, line_checks}
use Rattle.gte_arithmetic.proofs.Flags.{flags_++}
use Rattle.gte_colour.specs.Shade.{shade_of}
use Rattle.gte_inputs.specs.Inputs.{Inputs, inputs_of}
use Rattle.gte_lighting.specs.Normals.{last_checks, ncs_checks, ncs_of}
use Rattle.gte_colour.specs.Lights.{light_sums, lit_ir, back_sums}
use Rattle.gte_colour.proofs.LightsLines.{after_line}
use Rattle.gte_colour.proofs.CueingLines.{code, with_flag}
use Rattle.gte_lighting.proofs.Twice.{last_flags}
use Rattle.gte_lighting.proofs.normals.ncs_part.Goals as goal

joined : (sf lm : Bool) (i : Inputs) (k : ℕ)
    → let a = line_of sf lm (light_sums i k) in
    let s = shade_of sf lm i.rgbc (back_sums i a.ir) in
    with_flag a.flag s ≡ ncs_of sf lm i k
unfolding line_of shade_of ncs_of ncs_checks
joined sf lm i k =
    let t = back_sums i (lit_ir sf lm i k) in
    rw (after_line 1 sf lm (light_sums i k) (line_checks 2 sf lm t ++ last_checks 6 sf lm t), flags_++ (line_checks 2 sf lm t) (last_checks 6 sf lm t), last_flags 2 6 sf lm t)

pub returns : goal.returns
returns c =
    let a = c.args in
    rw (c.with_flag.ensures, c.finish_colour.ensures, c.back_sums.ensures.is, c.light_line-a.ensures, code a.c.now) (joined a.sf a.lm (inputs_of a.c.now) a.k)

-- Two lines, whose flags are joined.
use mathlib.Core.Path.{◌≡◌, sym}
use mathlib.Core.Bool.{Bool}
use Prim.Native.Nat.{ℕ}
use Rattle.gte_arithmetic.specs.Checks.{or}
use Rattle.gte_line.specs.Line.{line_of}
use Rattle.gte_arithmetic.specs.declared.values.Line.{Line}
use Rattle.gte_inputs.specs.Inputs.{Inputs, inputs_of}
use Rattle.gte_colour.specs.Lights.{light_sums, normal_line, back_sums}
use Rattle.gte_colour.proofs.Normal.{normal_flag}
use Rattle.gte_colour.proofs.lights.normal_line.Goals as goal

joined : (sf lm : Bool) (i : Inputs) (k : ℕ)
    → let a = line_of sf lm (light_sums i k) in
    let b = line_of sf lm (back_sums i a.ir) in
    ◌≡◌ {A = Line} (record { mac = b.mac; ir = b.ir; flag = or a.flag b.flag }) (normal_line sf lm i k)
unfolding line_of normal_line
joined sf lm i k = rw (sym (normal_flag sf lm i k))

pub returns : goal.returns
unfolding or
returns c =
    let a = c.args in
    rw (c.finish-b.ensures, c.back_sums.ensures.is, c.light_line-a.ensures) (joined a.sf a.lm (inputs_of a.c.now) a.k)

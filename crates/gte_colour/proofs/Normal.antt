-- The flags of lines 1 and 2 of a normal colour command, then of the rest.
use mathlib.Core.Path.{◌≡◌, sym, ap, ◌∙◌}
use mathlib.Core.Bool.{Bool}
use mathlib.Core.List.{List, [], ◌++◌}
use Prim.Native.Nat.{ℕ}
use Rattle.gte_arithmetic.specs.Checks.{or, Check, flags}
use Rattle.gte_line.specs.Line.{line_checks}
use Rattle.gte_arithmetic.proofs.Flags.{or_assoc, or_none}
use Rattle.gte_inputs.specs.Inputs.{Inputs}
use Rattle.gte_colour.specs.Lights.{back_sums, light_sums, lit_ir, normal_checks, normal_line}
use Rattle.gte_colour.proofs.LightsLines.{after_line}

two_lines : (sf lm : Bool) (i : Inputs) (k : ℕ) (rest : List Check)
    → flags (normal_checks sf lm i k rest)
    ≡ or (or (flags (line_checks 0 sf lm (light_sums i k))) (flags (line_checks 0 sf lm (back_sums i (lit_ir sf lm i k))))) (flags rest)
two_lines sf lm i k rest =
    let a = flags (line_checks 0 sf lm (light_sums i k)) in
    let t = back_sums i (lit_ir sf lm i k) in
    after_line 1 sf lm (light_sums i k) (line_checks 2 sf lm t ++ rest) ∙ ap (or a) (after_line 2 sf lm t rest)
    ∙ sym (or_assoc a (flags (line_checks 0 sf lm t)) (flags rest))

pub normal_flag : (sf lm : Bool) (i : Inputs) (k : ℕ)
    → (normal_line sf lm i k).flag
    ≡ or (flags (line_checks 0 sf lm (light_sums i k))) (flags (line_checks 0 sf lm (back_sums i (lit_ir sf lm i k))))
unfolding normal_line flags
normal_flag sf lm i k = two_lines sf lm i k [] ∙ or_none _

pub normal_flags : (sf lm : Bool) (i : Inputs) (k : ℕ) (rest : List Check)
    → flags (normal_checks sf lm i k rest) ≡ or (normal_line sf lm i k).flag (flags rest)
normal_flags sf lm i k rest = two_lines sf lm i k rest ∙ ap (λ (x : ℕ). or x (flags rest)) (sym (normal_flag sf lm i k))

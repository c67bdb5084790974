-- The flags of a line, and of what follows: the line that checks name does not matter to them.
use mathlib.Core.Path.{◌≡◌, refl, ap, ◌∙◌}
use mathlib.Core.Bool.{Bool}
use mathlib.Core.List.{List, ◌++◌}
use Prim.Native.Nat.{ℕ}
use Rattle.gte_arithmetic.specs.Checks.{or, Check, flags}
use Rattle.gte_line.specs.Line.{line_checks, line_checks_at}
use Rattle.gte_arithmetic.specs.Triples.{Wide}
use Rattle.gte_arithmetic.proofs.Flags.{flags_++}

line_flags : (n : ℕ) (sf lm : Bool) (s : Wide) → flags (line_checks n sf lm s) ≡ flags (line_checks 0 sf lm s)
unfolding flags line_checks_at
line_flags n sf lm s = refl

pub after_line : (n : ℕ) (sf lm : Bool) (s : Wide) (rest : List Check)
    → flags (line_checks n sf lm s ++ rest) ≡ or (flags (line_checks 0 sf lm s)) (flags rest)
after_line n sf lm s rest = flags_++ (line_checks n sf lm s) rest ∙ ap (λ (x : ℕ). or x (flags rest)) (line_flags n sf lm s)

-- SQR and OP: their values and the checks that they make (001's formulas as fixed in 01).
use Rattle.std.specs.Prelude.{Bool, List, ℤ}
use Rattle.gte_arithmetic.specs.Checks.{Check}
use Rattle.gte_sums.specs.Sums.{entry}
use Rattle.gte_line.specs.Line.{line_with, line_of, line_checks_at}
use Rattle.gte_arithmetic.specs.Triples.{Vector}
use Rattle.gte_arithmetic.specs.declared.values.Line.{Line}
use Rattle.gte_sums.specs.Products.{squares_of, cross_of}
use Rattle.gte_inputs.specs.Inputs.{Inputs}

-- MAC stands on line 1, IR on line 2
abbrev pub square_checks : Bool → Bool → Inputs → List Check
square_checks sf lm i = line_checks_at 1 1 1 2 sf lm (squares_of i.ir)

unfoldable pub square_of : Bool → Bool → Inputs → Line
square_of sf lm i = line_with (square_checks sf lm i) (line_of sf lm (squares_of i.ir))

-- D1, D2 and D3 are RT11, RT22 and RT33
unfoldable pub diagonal_of : List (List ℤ) → Vector
diagonal_of m = record { x = entry m 0 0; y = entry m 1 1; z = entry m 2 2 }

abbrev pub outer_checks : Bool → Bool → Inputs → List Check
outer_checks sf lm i = line_checks_at 1 1 1 2 sf lm (cross_of i.ir (diagonal_of i.rt))

unfoldable pub outer_of : Bool → Bool → Inputs → Line
outer_of sf lm i = line_with (outer_checks sf lm i) (line_of sf lm (cross_of i.ir (diagonal_of i.rt)))

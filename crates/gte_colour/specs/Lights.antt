-- The lines that the normal colour commands begin with, and BK·1000h + LCM-as-IR (001's formulas as fixed in 01). Line numbers are
-- those of 001's formula of the command.
use Rattle.std.specs.Prelude.{Bool, List, [], ◌++◌, ℕ}
use Rattle.gte_arithmetic.specs.Checks.{Check}
use Rattle.gte_sums.specs.Sums.{no_long, product_of}
use Rattle.gte_line.specs.Line.{line_with, line_of, line_checks}
use Rattle.gte_arithmetic.specs.Triples.{Vector, Wide}
use Rattle.gte_arithmetic.specs.declared.values.Line.{Line}
use Rattle.gte_sums.specs.Tones.{tones_of}
use Rattle.gte_inputs.specs.Inputs.{Inputs, normal}

-- BK·1000h + LCM-as-IR, and IR after its line
unfoldable pub back_sums : Inputs → Vector → Wide
back_sums i v = product_of i.lcm i.bk v

abbrev pub back_ir : Bool → Bool → Inputs → Vector → Vector
back_ir sf lm i v = (line_of sf lm (back_sums i v)).ir

-- LLM-as-V
unfoldable pub light_sums : Inputs → ℕ → Wide
light_sums i k = product_of i.llm no_long (normal k i)

-- IR after line 1 of NCS, NCCS and NCDS
abbrev pub lit_ir : Bool → Bool → Inputs → ℕ → Vector
lit_ir sf lm i k = (line_of sf lm (light_sums i k)).ir

-- lines 1 and 2 of NCCS and NCDS, and what line 3 gives
abbrev pub normal_checks : Bool → Bool → Inputs → ℕ → List Check → List Check
normal_checks sf lm i k rest = line_checks 1 sf lm (light_sums i k) ++ (line_checks 2 sf lm (back_sums i (lit_ir sf lm i k)) ++ rest)

unfoldable pub normal_line : Bool → Bool → Inputs → ℕ → Line
normal_line sf lm i k = line_with (normal_checks sf lm i k []) (line_of sf lm (back_sums i (lit_ir sf lm i k)))

abbrev pub normal_tones : Bool → Bool → Inputs → ℕ → Wide
normal_tones sf lm i k = tones_of i.rgbc (back_ir sf lm i (lit_ir sf lm i k))

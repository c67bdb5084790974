-- MVMVA: its values and the checks that it makes (001's formula as fixed in 01). Line numbers are those of 001's formula.
use Rattle.std.specs.Prelude.{Bool, cond, List, [], ◌∷◌, ℕ, ℤ, pos, negsuc, ◌*ℤ◌, eqb}
use Rattle.gte_arithmetic.specs.Checks.{Check, flags}
use Rattle.gte_arithmetic.specs.Values.{mac_of, sum_checks, ir_check}
use Rattle.gte_sums.specs.Sums.{entry, no_long, product_of}
use Rattle.gte_line.specs.Line.{line_with, line_of, line_checks_at}
use Rattle.gte_arithmetic.specs.Triples.{Vector, Long, Wide}
use Rattle.gte_arithmetic.specs.declared.values.Line.{Line}
use Rattle.gte_inputs.specs.Inputs.{Inputs}

-- matrix 3: -60h, 60h, IR0, three times RT13, three times RT22
unfoldable pub odd_matrix : List (List ℤ) → ℤ → List (List ℤ)
odd_matrix rt f =
    (negsuc 0x5f ∷ pos 0x60 ∷ f ∷ [])
    ∷ (entry rt 0 2 ∷ entry rt 0 2 ∷ entry rt 0 2 ∷ [])
    ∷ (entry rt 1 1 ∷ entry rt 1 1 ∷ entry rt 1 1 ∷ [])
    ∷ []

-- mx: RT, LLM, LCM or matrix 3
unfoldable pub matrix_by : ℕ → Inputs → List (List ℤ)
matrix_by mx i = cond (eqb mx 0) i.rt (cond (eqb mx 1) i.llm (cond (eqb mx 2) i.lcm (odd_matrix i.rt i.ir0)))

-- v: V0, V1, V2 or IR
unfoldable pub vector_by : ℕ → Inputs → Vector
vector_by v i = cond (eqb v 0) i.v0 (cond (eqb v 1) i.v1 (cond (eqb v 2) i.v2 i.ir))

-- cv: TR, BK, FC or none
unfoldable pub long_by : ℕ → Inputs → Long
long_by cv i = cond (eqb cv 0) i.tr (cond (eqb cv 1) i.bk (cond (eqb cv 2) i.fc no_long))

-- the third products alone, which MVMVA with FC stores
unfoldable pub thirds_of : List (List ℤ) → Vector → Wide
thirds_of m v = record { x = entry m 0 2 *ℤ v.z; y = entry m 1 2 *ℤ v.z; z = entry m 2 2 *ℤ v.z }

-- with FC, bits 30..25 come from the full sum s, MAC, IR and bits 24..22 from the third product t
unfoldable pub far_checks : Bool → Bool → Wide → Wide → List Check
far_checks sf lm s t =
    sum_checks 1 1 s.x (ir_check 1 4 lm (mac_of sf t.x)
    ∷ sum_checks 2 2 s.y (ir_check 2 4 lm (mac_of sf t.y)
    ∷ sum_checks 3 3 s.z (ir_check 3 4 lm (mac_of sf t.z) ∷ [])))

unfoldable pub far_of : Bool → Bool → List (List ℤ) → Long → Vector → Line
far_of sf lm m t v = line_with (far_checks sf lm (product_of m t v) (thirds_of m v)) (line_of sf lm (thirds_of m v))

-- the MACs stand on lines 1 to 3, IR on line 4
unfoldable pub multiplied_of : Bool → Bool → ℕ → List (List ℤ) → Long → Vector → Line
multiplied_of sf lm cv m t v =
    cond (eqb cv 2) (far_of sf lm m t v) (line_with (line_checks_at 1 2 3 4 sf lm (product_of m t v)) (line_of sf lm (product_of m t v)))

abbrev pub multiplied_checks : Bool → Bool → ℕ → List (List ℤ) → Long → Vector → List Check
multiplied_checks sf lm cv m t v =
    cond (eqb cv 2) (far_checks sf lm (product_of m t v) (thirds_of m v)) (line_checks_at 1 2 3 4 sf lm (product_of m t v))

unfoldable pub mvmva_of : Bool → Bool → ℕ → ℕ → ℕ → Inputs → Line
mvmva_of sf lm mx v cv i = multiplied_of sf lm cv (matrix_by mx i) (long_by cv i) (vector_by v i)

abbrev pub mvmva_checks : Bool → Bool → ℕ → ℕ → ℕ → Inputs → List Check
mvmva_checks sf lm mx v cv i = multiplied_checks sf lm cv (matrix_by mx i) (long_by cv i) (vector_by v i)

-- the flags of three sums alone
unfoldable pub sum_flags : Wide → ℕ
sum_flags s = flags (sum_checks 1 0 s.x (sum_checks 2 0 s.y (sum_checks 3 0 s.z [])))

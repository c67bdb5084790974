-- What the answer does not depend on: the top seven bits of the word, and all of the machine but its COP2 registers.
use mathlib.Core.Bool.{Bool}
use mathlib.Core.List.{List, []}
use mathlib.Core.Path.{◌≡◌, refl, ap}
use Prim.Native.Nat.{ℕ, ◌/◌, ◌%◌, ◌^◌}
use native.Mathlib.Omega.{arith}
use Rattle.tables.specs.Table.{lookup}
use Rattle.gte_arithmetic.specs.Checks.{Check}
use Rattle.gte_rows.specs.Rows.{words_of, rows_of}
use Rattle.gte_inputs.specs.Inputs.{Inputs, inputs_of}
use Rattle.gte.specs.Commands.{Command, RTPS, NCLIP, OP, DPCS, INTPL, MVMVA, NCDS, CDP, NCDT, NCCS, CC, NCS, NCT, SQR, DCPL, DPCT, AVSZ3, AVSZ4, RTPT, GPF, GPL, NCCT, unlisted, commands, command_in, sf_of, lm_of, parts_of, listed, outcome_of}
use Rattle.gte_causes.specs.Causes.{parts_at}
use Rattle.image.specs.Image.{geometry_in}
use Rattle.image.specs.Refusals.{image_tests, image_refusal, first_of}
use Rattle.image.proofs.Refusals.{all_pass}
use Rattle.causes.specs.Causes.{cause_words, code_of, causes_of}
use Rattle.cause_laws.specs.Exact.{TopBitsLaw, RegistersLaw}

-- ---- the fields of a word are those of its low 25 bits
record Fields (v w : ℕ) : Type 0 where
  number : v % 64 ≡ w % 64
  sf : v / 2 ^ 19 % 2 ≡ w / 2 ^ 19 % 2
  lm : v / 2 ^ 10 % 2 ≡ w / 2 ^ 10 % 2
  mx : v / 131072 % 4 ≡ w / 131072 % 4
  vector : v / 32768 % 4 ≡ w / 32768 % 4
  long : v / 8192 % 4 ≡ w / 8192 % 4

fields : (v w : ℕ) → v % 2 ^ 25 ≡ w % 2 ^ 25 → Fields v w
fields v w e = record { number = omega arith; sf = omega arith; lm = omega arith; mx = omega arith; vector = omega arith; long = omega arith }

same_command : {v w : ℕ} → Fields v w → command_in v ≡ command_in w
same_command f = ap (λ (n : ℕ). lookup commands unlisted n) f.number

same_outcome : {v w : ℕ} → Fields v w → outcome_of v ≡ outcome_of w
unfolding outcome_of
same_outcome f = ap listed (same_command f)

-- beside its number, sf and lm a command reads mx, v and cv
same_fields : {v w : ℕ} (c : Command) (sf lm : Bool) (i : Inputs) → Fields v w → parts_of c sf lm v i ≡ parts_of c sf lm w i
unfolding parts_of
same_fields MVMVA sf lm i f = rw (f.mx, f.vector, f.long)
same_fields RTPS sf lm i f = refl
same_fields NCLIP sf lm i f = refl
same_fields OP sf lm i f = refl
same_fields DPCS sf lm i f = refl
same_fields INTPL sf lm i f = refl
same_fields NCDS sf lm i f = refl
same_fields CDP sf lm i f = refl
same_fields NCDT sf lm i f = refl
same_fields NCCS sf lm i f = refl
same_fields CC sf lm i f = refl
same_fields NCS sf lm i f = refl
same_fields NCT sf lm i f = refl
same_fields SQR sf lm i f = refl
same_fields DCPL sf lm i f = refl
same_fields DPCT sf lm i f = refl
same_fields AVSZ3 sf lm i f = refl
same_fields AVSZ4 sf lm i f = refl
same_fields RTPT sf lm i f = refl
same_fields GPF sf lm i f = refl
same_fields GPL sf lm i f = refl
same_fields NCCT sf lm i f = refl
same_fields unlisted sf lm i f = refl

same_parts : {v w : ℕ} (g : List ℕ) → Fields v w → parts_at v g ≡ parts_at w g
same_parts {v} {w} g f = rw (same_command f, f.sf, f.lm) (same_fields (command_in w) (sf_of w) (lm_of w) (inputs_of g) f)

same_words : {v w : ℕ} (m : List ℕ) → Fields v w → cause_words m v ≡ cause_words m w
same_words m f = ap (λ (parts : List (List Check)). words_of (rows_of parts)) (same_parts (geometry_in m) f)

pub top_bits_law : TopBitsLaw
unfolding causes_of code_of
top_bits_law m v w ws e = let f = fields v w e in rw (same_outcome f, same_words m f)

pub registers_law : RegistersLaw
unfolding image_refusal causes_of code_of first_of
registers_law m n word ws h k e =
    let p = all_pass 2 (image_tests m []) refl h in
    let q = all_pass 2 (image_tests n []) refl k in
    rw (p.0, p.1.0, q.0, q.1.0, e)

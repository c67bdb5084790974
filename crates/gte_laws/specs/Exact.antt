-- Demand 2 for FLAG: after a listed command each bit of register 63 is set exactly under its named condition (01 "GTE arithmetic",
-- "COP2 registers").
use Rattle.std.specs.Prelude.{Bool, true, false, cond, ◌&&◌, ◌||◌, List, [], ◌∷◌, ◌≡◌, ℕ, eqb, length, Ok}
use Rattle.words.specs.Words.{bit_at}
use Rattle.gte_arithmetic.specs.Checks.{Check, fails, counted, some}
use Rattle.gte_registers.specs.Registers.{reg}
use Rattle.gte_inputs.specs.Inputs.{inputs_of}
use Rattle.gte.specs.Commands.{command_in, sf_of, lm_of, checks_of, outcome_of, command_of}

-- the checks of a command word over 64 words
abbrev pub checks_at : ℕ → List ℕ → List Check
checks_at word w = checks_of (command_in word) (sf_of word) (lm_of word) word (inputs_of w)

-- some check of one of bits 30..23 and 18..13 fails
abbrev pub some_counted : List Check → Bool
some_counted [] = false
some_counted (c ∷ cs) = (bit_at c.bit counted && fails c.test) || some_counted cs

-- the named condition of bit b, for every b: bit 31 by the bits that count, bits 30..12 each by its own checks, and no other bit is
-- ever set
abbrev pub condition : ℕ → List Check → Bool
condition b cs = cond (eqb 31 b) (some_counted cs) (bit_at b 0x7fff_f000 && some b cs)

abbrev pub Demand2 : Type 0
Demand2 = (word : ℕ) (w : List ℕ) → length w ≡ 64 → outcome_of word ≡ Ok tt → (b : ℕ) → bit_at b (reg (command_of word w) 63) ≡ condition b (checks_at word w)

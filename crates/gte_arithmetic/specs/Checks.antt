-- Checked values (01 "GTE arithmetic"). A part of a command is a list of checks: the FLAG bit, the line of 001's formula
-- that writes the value (counted from 1, lines that write a register), and the exact value with its range. FLAG is the OR
-- of the bits of the checks that fail, so each condition is written once, and nothing else sets a bit.
use Rattle.std.specs.Prelude.{Bool, true, false, cond, ◌&&◌, ◌||◌, List, [], ◌∷◌, ℕ, ◌+◌, ◌*◌, ◌^◌, ℤ, leb, eqb}
use Rattle.std.specs.Int.Signed.{lt_z}
use Rattle.std.specs.Int.Bits.{bit_or, bit_and}
use Rattle.integers.specs.Clamp.{outside}

-- the OR of two words
unfoldable pub or : ℕ → ℕ → ℕ
or a b = bit_or a b

pub data Test : Type 0 where
  above : ℤ → ℤ → Test  -- a value, and the highest it may be
  below : ℤ → ℤ → Test  -- a value, and the lowest it may be
  beyond : ℤ → ℤ → ℤ → Test  -- a value, the lowest and the highest it may be
  division : ℕ → ℕ → Test  -- H and SZ3

-- the value lies outside of its range; the quotient overflows exactly when H ≥ 2·SZ3
abbrev pub fails : Test → Bool
fails (above z hi) = lt_z hi z
fails (below z lo) = lt_z z lo
fails (beyond z lo hi) = outside lo hi z
fails (division h sz) = leb (2 * sz) h

pub record Check : Type 0 where
  pub bit : ℕ
  pub line : ℕ
  pub test : Test

abbrev pub check : ℕ → ℕ → Test → Check
check b l t = record { bit = b; line = l; test = t }

-- a word where a condition holds, else 0
abbrev pub raise : Bool → ℕ → ℕ
raise true n = n
raise false n = 0

-- bits 30..12 of FLAG after a command
unfoldable pub flags : List Check → ℕ
flags [] = 0
flags (c ∷ cs) = or (raise (fails c.test) (2 ^ c.bit)) (flags cs)

-- bit 31 is the OR of bits 30..23 and 18..13
abbrev pub counted : ℕ
counted = 0x7f87_e000

-- register 63 as it reads: bits 30..12 of the word that was written, and bit 31
unfoldable pub flag_word : ℕ → ℕ
flag_word f = cond (eqb (bit_and f counted) 0) 0 0x8000_0000 + bit_and f 0x7fff_f000

-- some check of bit b fails: the named condition of that bit
abbrev pub some : ℕ → List Check → Bool
some b [] = false
some b (c ∷ cs) = (eqb c.bit b && fails c.test) || some b cs

-- Why a bit of FLAG was set (02, Ticket 5): the checks that fail, as rows of five words.
use Rattle.std.specs.Prelude.{Bool, cond, ◌&&◌, List, [], ◌∷◌, ◌++◌, ℕ, zero, suc, ◌+◌, ◌^◌, eqb, ℤ}
use Rattle.std.specs.Int.Signed.{shr_z}
use Rattle.std.specs.Int.{w64}
use Rattle.std.proofs.Common.{SFits}
use Rattle.integers.specs.Floor.{mod_z}
use Rattle.gte_arithmetic.specs.Checks.{Test, above, below, beyond, division, fails, Check}

-- ---- a row: the bit, the part (1 for a single), 001's line, then the value's low and high word, or H and SZ3
pub record Row : Type 0 where
  pub bit : ℕ
  pub part : ℕ
  pub line : ℕ
  pub low : ℕ
  pub high : ℕ

-- the low and the high word of a signed value
abbrev pub low_of : ℤ → ℕ
low_of z = mod_z z (2 ^ 32)

abbrev pub high_of : ℤ → ℕ
high_of z = mod_z (shr_z z (2 ^ 32)) (2 ^ 32)

-- the last two words: of the value that left its range; for bit 17 H and SZ3
abbrev pub fourth : Test → ℕ
fourth (above z hi) = low_of z
fourth (below z lo) = low_of z
fourth (beyond z lo hi) = low_of z
fourth (division h sz) = h

abbrev pub fifth : Test → ℕ
fifth (above z hi) = high_of z
fifth (below z lo) = high_of z
fifth (beyond z lo hi) = high_of z
fifth (division h sz) = sz

-- the row of a check of part p
abbrev pub row_of : ℕ → Check → Row
row_of p c = record { bit = c.bit; part = p; line = c.line; low = fourth c.test; high = fifth c.test }

-- ---- the rows of a command, from the checks of its parts

-- a check of bit b that fails
abbrev pub caused : ℕ → Check → Bool
caused b c = eqb c.bit b && fails c.test

-- the rows of bit b in part p: by line, since a part's checks stand in this order
unfoldable pub causes : ℕ → ℕ → List Check → List Row
causes b p [] = []
causes b p (c ∷ cs) = cond (caused b c) (row_of p c ∷ causes b p cs) (causes b p cs)

-- the rows of bit b by part, the first of which is p
unfoldable pub part_rows : ℕ → ℕ → List (List Check) → List Row
part_rows b p [] = []
part_rows b p (cs ∷ parts) = causes b p cs ++ part_rows b (suc p) parts

-- the rows of k bits, of which 12 is the lowest, from the highest down
unfoldable pub rows_down : ℕ → List (List Check) → List Row
rows_down zero parts = []
rows_down (suc k) parts = part_rows (12 + k) 1 parts ++ rows_down k parts

-- bits 30 down to 12
abbrev pub rows_of : List (List Check) → List Row
rows_of parts = rows_down 19 parts

-- rows as words
abbrev pub row_words : Row → List ℕ
row_words r = r.bit ∷ r.part ∷ r.line ∷ r.low ∷ r.high ∷ []

unfoldable pub words_of : List Row → List ℕ
words_of [] = []
words_of (r ∷ rs) = row_words r ++ words_of rs

-- ---- the two words are the whole value, since it has 64 bits at most; H and SZ3 are words
abbrev pub Whole : Test → Type 0
Whole (above z hi) = SFits w64 z
Whole (below z lo) = SFits w64 z
Whole (beyond z lo hi) = SFits w64 z
Whole (division h sz) = Unit {0}

pub data AllWhole : List Check → Type 0 where
  none : AllWhole []
  more : {c : Check} {cs : List Check} → Whole c.test → AllWhole cs → AllWhole (c ∷ cs)

pub data PartsWhole : List (List Check) → Type 0 where
  none : PartsWhole []
  more : {cs : List Check} {parts : List (List Check)} → AllWhole cs → PartsWhole parts → PartsWhole (cs ∷ parts)

-- The rows of a command word over the 64 words, and what listing them does.
use Rattle.std.specs.Prelude.{◌≡◌, List, ℕ, ◌+◌, ◌≤◌}
use Rattle.gte_arithmetic.specs.Checks.{Check}
use Rattle.gte_rows.specs.Rows.{Row, part_rows, rows_of, PartsWhole}
use Rattle.gte_rows.specs.Listing.{Listing, Adds, listed}
use Rattle.gte_rows.specs.declared.rows.Rows.{Rows}
use Rattle.gte_inputs.specs.Inputs.{inputs_of}
use Rattle.gte.specs.Commands.{command_in, sf_of, lm_of, parts_of}

-- the checks that a command word makes over 64 words, by part
abbrev pub parts_at : ℕ → List ℕ → List (List Check)
parts_at word w = parts_of (command_in word) (sf_of word) (lm_of word) word (inputs_of w)

-- the rows of those that fail
abbrev pub rows_at : ℕ → List ℕ → List Row
rows_at word w = rows_of (parts_at word w)

-- t is what the rows of bit b leave of s; and no value is longer than two words
pub record ListsBit (b : ℕ) (parts : List (List Check)) (s t : Listing) : Type 0 where
  pub rows : Adds (part_rows b 1 parts) s t
  pub whole : PartsWhole parts

-- the same of the code's rows: k words at most, of the same lent words; whichever part is asked for before and after
pub record ListsParts (k : ℕ) (parts : List (List Check)) (s t : Rows) : Type 0 where
  pub lists : ListsBit s.wanted.bit parts (listed s) (listed t)
  pub count : t.count ≤ s.count + k
  pub bit : t.wanted.bit ≡ s.wanted.bit
  pub words : t.out.ghost_name ≡ s.out.ghost_name

-- What makes a list of rows exact: the causes of a command word over 64 words, each once, in order, and FLAG's bits.
use Rattle.std.specs.Prelude.{Bool, true, false, ◌||◌, List, [], ◌∷◌, ◌≡◌, ℕ, suc, ◌+◌, ◌*◌, ◌^◌, ◌<◌, ◌≤◌, eqb, length, Ok}
use Rattle.std.specs.Int.{w64}
use Rattle.std.proofs.Common.{to_z}
use Rattle.words.specs.Words.{bit_at}
use Rattle.gte_arithmetic.specs.Checks.{Test, above, below, beyond, division, fails, Check}
use Rattle.gte_registers.specs.Registers.{reg}
use Rattle.gte_rows.specs.Rows.{Row, row_of, PartsWhole}
use Rattle.gte.specs.Commands.{outcome_of, command_of}
use Rattle.gte_causes.specs.Causes.{parts_at, rows_at}

-- ---- lists
-- a member
pub data In {A : Type 0} (a : A) : List A → Type 0 where
  here : {xs : List A} → In a (a ∷ xs)
  later : {x : A} {xs : List A} → In a xs → In a (x ∷ xs)

-- what holds of every member
pub data All {A : Type 0} (P : A → Type 0) : List A → Type 0 where
  none : All P []
  more : {a : A} {xs : List A} → P a → All P xs → All P (a ∷ xs)

-- a list of checks is part p, where the first of the list has the number n
pub data PartFrom (cs : List Check) : ℕ → ℕ → List (List Check) → Type 0 where
  first : {p : ℕ} {parts : List (List Check)} → PartFrom cs p p (cs ∷ parts)
  next : {n p : ℕ} {ds : List Check} {parts : List (List Check)} → PartFrom cs (suc n) p parts → PartFrom cs n p (ds ∷ parts)

-- parts count from 1
abbrev pub PartAt : List Check → ℕ → List (List Check) → Type 0
PartAt cs p parts = PartFrom cs 1 p parts

-- ---- one row
-- the last two words tell all of the value that was tested; of the quotient they are H and SZ3
abbrev pub Tells : Test → ℕ → ℕ → Type 0
Tells (above z hi) low high = to_z w64 (high * 2 ^ 32 + low) ≡ z
Tells (below z lo) low high = to_z w64 (high * 2 ^ 32 + low) ≡ z
Tells (beyond z lo hi) low high = to_z w64 (high * 2 ^ 32 + low) ≡ z
Tells (division h sz) low high = (low ≡ h) × (high ≡ sz)

-- a true cause: the row of a check of one of the parts that fails
pub record Cause (parts : List (List Check)) (r : Row) : Type 0 where
  pub part : ℕ
  pub checks : List Check
  pub check : Check
  pub is_part : PartAt checks part parts
  pub in_part : In check checks
  pub failing : fails check.test ≡ true
  pub row : r ≡ row_of part check
  pub tells : Tells check.test r.low r.high

-- ---- many
-- a row stands before another: its bit is higher; or of one bit, its part is earlier; or of one part too, its line is
pub data Before (r s : Row) : Type 0 where
  higher : s.bit < r.bit → Before r s
  earlier : r.bit ≡ s.bit → r.part < s.part → Before r s
  ahead : r.bit ≡ s.bit → r.part ≡ s.part → r.line < s.line → Before r s

-- each row stands before all that follow it, so none stands twice
pub data Sorted : List Row → Type 0 where
  empty : Sorted []
  row : {r : Row} {rs : List Row} → All (Before r) rs → Sorted rs → Sorted (r ∷ rs)

-- some row has bit b
abbrev pub has_row : ℕ → List Row → Bool
has_row b [] = false
has_row b (r ∷ rs) = eqb r.bit b || has_row b rs

-- the rows of a command word over 64 words
pub record RowsExact (word : ℕ) (w : List ℕ) (rows : List Row) : Type 0 where
  -- each row is a true cause
  pub sound : (r : Row) → In r rows → Cause (parts_at word w) r
  -- no cause is left off: each check that fails, of each part, has its row
  pub complete : (p : ℕ) (cs : List Check) (c : Check) → PartAt cs p (parts_at word w) → In c cs → fails c.test ≡ true → In (row_of p c) rows
  -- by bit from 30 down, then by part, then by line
  pub sorted : Sorted rows
  -- of bits 30 to 12 of FLAG after the command, those are set that have a row
  pub flag : (b : ℕ) → 12 ≤ b → b ≤ 30 → bit_at b (reg (command_of word w) 63) ≡ has_row b rows

-- of all 22 commands, over any 64 words
abbrev pub RowsLaw : Type 0
RowsLaw = (word : ℕ) (w : List ℕ) → length w ≡ 64 → outcome_of word ≡ Ok tt → PartsWhole (parts_at word w) → RowsExact word w (rows_at word w)

-- Lent words, and the number of words that the rows so far need. A row is stored where it fits and counts in any case, so that the
-- same code counts the rows and writes them.
use Rattle.std.specs.Prelude.{cond, List, [], ◌∷◌, ◌≡◌, ℕ, ◌+◌, ◌≤◌, leb, length}
use Rattle.std.proofs.lemmas.List.Edits.{sets}
use Rattle.gte_arithmetic.specs.Checks.{Check}
use Rattle.gte_rows.specs.Rows.{Row, causes, row_words, AllWhole}
use Rattle.gte_rows.specs.declared.rows.Rows.{Rows}

pub record Listing : Type 0 where
  pub count : ℕ
  pub words : List ℕ

abbrev pub listing : ℕ → List ℕ → Listing
listing n ws = record { count = n; words = ws }

-- one row more
unfoldable pub add_row : Row → Listing → Listing
add_row r s =
    listing (s.count + 5) (cond (leb (s.count + 5) (length s.words)) (sets s.words s.count (row_words r)) s.words)

-- rows one after another
unfoldable pub add_rows : List Row → Listing → Listing
add_rows [] s = s
add_rows (r ∷ rs) s = add_rows rs (add_row r s)

-- t is what these rows leave of s
pub record Adds (rows : List Row) (s t : Listing) : Type 0 where
  pub is : t ≡ add_rows rows s

-- t is what the rows of bit b among the checks of part p leave of s; and no value is longer than two words
pub record Lists (b p : ℕ) (cs : List Check) (s t : Listing) : Type 0 where
  pub rows : Adds (causes b p cs) s t
  pub whole : AllWhole cs

-- ---- the same of the code's rows

-- what stands there now
abbrev pub listed : Rows → Listing
listed s = listing s.count s.out.now

-- a row of the part that is asked for
abbrev pub row_for : Rows → ℕ → ℕ → ℕ → ℕ → Row
row_for s b line low high = record { bit = b; part = s.wanted.part; line = line; low = low; high = high }

-- t needs k words more than s at most; they are the same lent words, and the same rows are asked for
pub record Most (k : ℕ) (s t : Rows) : Type 0 where
  pub count : t.count ≤ s.count + k
  pub wanted : t.wanted ≡ s.wanted
  pub words : t.out.ghost_name ≡ s.out.ghost_name

-- t is what the rows of these checks leave of s, k words at most
pub record ListsMost (k : ℕ) (cs : List Check) (s t : Rows) : Type 0 where
  pub lists : Lists s.wanted.bit s.wanted.part cs (listed s) (listed t)
  pub most : Most k s t

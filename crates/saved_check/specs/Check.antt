-- What a check of a file answers (02, Ticket 3, refusal 7).
use Rattle.std.specs.Prelude.{List, ◌++◌, ◌≡◌, ℕ, ◌+◌, ◌%◌, ◌≤◌, length, drop, Result, Ok, Err}
use Rattle.saved_format.specs.Format.{field, WellFormedFile, MalformedFile}
use Rattle.saved_format.specs.Tails.{Content, Cut, Stops}
use Rattle.saved_check.specs.declared.Malformed.{Malformed}

-- the verdict is true of the file
unfoldable pub Checked : List ℕ → Result Unit Malformed → Type 0
Checked file (Ok _) = WellFormedFile file
Checked file (Err e) = MalformedFile file e.0

-- ---- from a place of the file on

-- r is the least number, from low on, that has the lower byte
pub record Least (low lower r : ℕ) : Type 0 where
  pub from : low ≤ r
  pub has : r % 256 ≡ lower
  pub first : (n : ℕ) → low ≤ n → n % 256 ≡ lower → r ≤ n

-- the field that stands from a place to the next
pub record Stands (tag low high : ℕ) (f : List ℕ) (at next : ℕ) : Type 0 where
  pub content : List ℕ
  pub fits : Content low high content
  pub is : drop at f ≡ field tag content ++ drop next f
  pub ends : next ≡ at + (3 + length content)
  pub within : next ≤ length f

unfoldable pub FieldAt : ℕ → ℕ → ℕ → List ℕ → ℕ → Result ℕ Malformed → Type 0
FieldAt tag low high f at (Ok next) = Stands tag low high f at next
FieldAt tag low high f at (Err e) = (k : ℕ) × (e.0 ≡ at + k) × Cut tag low high (drop at f) k

-- the verdict is true of what stands from a place on, where well formed means P
unfoldable pub Judged : (List ℕ → Type 0) → List ℕ → ℕ → Result Unit Malformed → Type 0
Judged P f at (Ok _) = P (drop at f)
Judged P f at (Err e) = (k : ℕ) × (e.0 ≡ at + k) × Stops P (drop at f) k

-- Exact sums: a translation by 1000h plus a matrix times a vector. The three matrices are three rows of three.
use Rattle.std.specs.Prelude.{List, [], ℕ, ℤ, pos, ◌+ℤ◌, ◌*ℤ◌, get_or}
use Rattle.integers.specs.Parts.{Mag}
use Rattle.gte_arithmetic.specs.Triples.{Vector, Long, Wide}

-- the entry in row i and column j, both from 0
abbrev pub entry : List (List ℤ) → ℕ → ℕ → ℤ
entry m i j = get_or (get_or m i []) j (pos 0)

-- T·1000h + M1-as-V1 + M2-as-V2 + M3-as-V3
unfoldable pub row_of : List (List ℤ) → ℕ → ℤ → Vector → ℤ
row_of m i t v = t *ℤ pos 4096 +ℤ entry m i 0 *ℤ v.x +ℤ entry m i 1 *ℤ v.y +ℤ entry m i 2 *ℤ v.z

unfoldable pub product_of : List (List ℤ) → Long → Vector → Wide
product_of m t v = record { x = row_of m 0 t.x v; y = row_of m 1 t.y v; z = row_of m 2 t.z v }

-- no translation
abbrev pub no_long : Long
no_long = record { x = pos 0; y = pos 0; z = pos 0 }

-- each of three values lies in -n..n-1: not of the papers; it says that no 64-bit sum wraps
pub record Bounded (n : ℕ) (s : Wide) : Type 0 where
  pub x : Mag s.x n
  pub y : Mag s.y n
  pub z : Mag s.z n

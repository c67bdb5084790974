-- The words that reads return, put together.
use Prim.Native.Nat.{ℕ}
use mathlib.Core.List.{List, [], ◌∷◌}
use mathlib.Core.Path.{◌≡◌, refl, ap, ◌∙◌}
use lib.ListN.{length}
use Rattle.gte_registers.specs.Registers.{kinds, read_of, reads, view}
use Rattle.gte_registers.proofs.Views.{from, spelt}
use Rattle.gte_registers.specs.Taken.{taken}

-- ---- the words that are not plain, taken over from what reads return
abbrev shown : List ℕ → List ℕ → List ℕ
shown w r = taken (36 ∷ 44 ∷ 52 ∷ 58 ∷ 59 ∷ 61 ∷ 62 ∷ 63 ∷ []) w (taken (15 ∷ 16 ∷ 17 ∷ 18 ∷ 19 ∷ 28 ∷ 29 ∷ 31 ∷ []) w (taken (1 ∷ 3 ∷ 5 ∷ 7 ∷ 8 ∷ 9 ∷ 10 ∷ 11 ∷ []) w r))

as_read : (g : List ℕ) → shown (view g) (from 64 0 g) ≡ view g
unfolding view reads read_of kinds
as_read g = refl

pub all_taken : (g : List ℕ) → length g ≡ 64 → shown (view g) g ≡ view g
all_taken g h = ap (shown (view g)) (spelt g h) ∙ as_read g

pub view_long : (s : List ℕ) → length (view s) ≡ 64
unfolding view reads
view_long s = refl

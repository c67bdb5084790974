-- Words taken over from another row.
use Rattle.std.specs.Prelude.{List, [], ◌∷◌, ℕ, get_or, set}

-- row, with the words of `from` at these places
abbrev pub taken : List ℕ → List ℕ → List ℕ → List ℕ
taken [] from row = row
taken (k ∷ ks) from row = taken ks from (set row k (get_or from k 0))

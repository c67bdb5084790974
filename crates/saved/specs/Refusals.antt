-- What a save and a load have in common: the tests of the lengths that are lent (02, Ticket 3).
use Rattle.std.specs.Prelude.{List, [], ◌∷◌, ◌≡◌, ℕ, ◌≤◌, eqb, length}
use Rattle.image.specs.Image.{image_length}
use Rattle.image.specs.Refusals.{Test, ◌else◌, first_of, memory_tests}

-- those of image, RAM and pad, in front of others: codes 1, 3 and 6
abbrev pub length_tests : ℕ → ℕ → ℕ → List Test → List Test
length_tests image ram pad ts = (eqb image image_length else 1) ∷ memory_tests ram pad ts

-- 0: the lengths are those of a machine
unfoldable pub length_code : ℕ → ℕ → ℕ → ℕ
length_code image ram pad = first_of (length_tests image ram pad [])

-- the same of what is lent
abbrev pub lent_code : List ℕ → List ℕ → List ℕ → ℕ
lent_code image ram pad = length_code (length image) (length ram) (length pad)

-- the lengths of what is lent are those of a machine's image, RAM and pad
pub record Lent (image ram pad : ℕ) : Type 0 where
  pub image_long : image ≡ 432
  pub ram_some : 1 ≤ ram
  pub ram_most : ram ≤ 2097152
  pub pad_long : pad ≡ 1024

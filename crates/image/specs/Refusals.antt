-- Which calls are refused, and what is read of an image (01 "The run and its numbers"; code 6 is of 02, Ticket 1).
use Rattle.std.specs.Prelude.{Bool, cond, List, [], ◌∷◌, ℕ, eqb, leb, length}
use Rattle.memory.specs.Addresses.{ram_length, pad_length}
use Rattle.memory.specs.Memory.{Memory}
use Rattle.image.specs.Image.{image_length}
use Rattle.image.specs.Formed.{well_formed}

-- what a call has to pass, and the code of one that does not
infix 20 ◌else◌
pub data Test : Type 0 where
  ◌else◌ : Bool → ℕ → Test

-- the code of the first test that fails; 0: all pass
unfoldable pub first_of : List Test → ℕ
first_of [] = 0
first_of ((ok else code) ∷ ts) = cond ok (first_of ts) code

abbrev pub most_steps : ℕ
most_steps = 1000000

-- the image's own tests, in front of others: codes 1 and 2
abbrev pub image_tests : List ℕ → List Test → List Test
image_tests m ts = (eqb (length m) image_length else 1) ∷ (well_formed m else 2) ∷ ts

-- those of the lengths of RAM and of the pad, in front of others: codes 3 and 6
abbrev pub memory_tests : ℕ → ℕ → List Test → List Test
memory_tests ram pad ts = (ram_length ram else 3) ∷ (eqb pad pad_length else 6) ∷ ts

-- those of lent memory and of the count: codes 3, 6 and 4
abbrev pub lent_tests : Memory → ℕ → List Test
lent_tests m count = memory_tests (length m.ram) (length m.pad) ((leb count most_steps else 4) ∷ [])

-- codes 1, 2, 3, 6 and 4 are tested in this order; 0: the call is not refused
unfoldable pub refusal_of : List ℕ → Memory → ℕ → ℕ
refusal_of i m count = first_of (image_tests i (lent_tests m count))

-- ---- the two halves, as code makes them
unfoldable pub image_refusal : List ℕ → ℕ
image_refusal m = first_of (image_tests m [])

-- the other tests, where the image's answered 0
unfoldable pub refusal_after : ℕ → Memory → ℕ → ℕ
refusal_after code m count = cond (eqb code 0) (first_of (lent_tests m count)) code

-- words of an image, or others where it has not the length of an image
abbrev pub words_or : List ℕ → List ℕ → List ℕ → List ℕ
words_or m ws other = cond (eqb (length m) image_length) ws other

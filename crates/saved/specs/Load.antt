-- What a load answers, and what the lent image, RAM and pad then hold (02, Ticket 3: "a read").
use Rattle.std.specs.Prelude.{cond, List, [], ◌∷◌, ◌++◌, ◌≡◌, ℕ, eqb, length}
use Rattle.byte_order.specs.Bytes.{bytes_of}
use Rattle.image.specs.Formed.{well_formed}
use Rattle.image.specs.Refusals.{◌else◌, first_of}
use Rattle.saved_format.specs.Format.{Machine, Means, MalformedFile}
use Rattle.saved.specs.Refusals.{lent_code}

pub record Loaded : Type 0 where
  pub code : ℕ
  pub number : ℕ
  pub image : List ℕ
  pub ram : List ℕ
  pub pad : List ℕ

abbrev pub loaded : ℕ → ℕ → List ℕ → List ℕ → List ℕ → Loaded
loaded code number image ram pad = record { code = code; number = number; image = image; ram = ram; pad = pad }

-- the image of a machine: words 0..43 and the COP2 words
abbrev pub image_of : Machine → List ℕ
image_of m = bytes_of (m.control ++ m.geometry)

-- of a well-formed file: 2 for its image, 8 where its RAM has another total than the lent one; 0: not refused
unfoldable pub load_code : Machine → List ℕ → ℕ
load_code m ram = first_of ((well_formed (image_of m) else 2) ∷ (eqb (length m.ram) (length ram) else 8) ∷ [])

-- the file's machine takes the place of what was lent, or nothing changes
unfoldable pub load_of : Machine → List ℕ → List ℕ → List ℕ → Loaded
load_of m image ram pad = cond (eqb (load_code m ram) 0) (loaded 0 0 (image_of m) m.ram m.pad) (loaded (load_code m ram) 0 image ram pad)

-- o is what a load of the file leaves, of the lent image, RAM and pad
pub data Loads (file image ram pad : List ℕ) (o : Loaded) : Type 0 where
  -- code 1, 3 or 6 by the lent lengths, whatever the file is
  lengths : (lent_code image ram pad ≡ 0 → ⊥) → o ≡ loaded (lent_code image ram pad) 0 image ram pad → Loads file image ram pad o
  -- code 7, with its number
  malformed : lent_code image ram pad ≡ 0 → (n : ℕ) → MalformedFile file n → o ≡ loaded 7 n image ram pad → Loads file image ram pad o
  -- a well-formed file
  means : lent_code image ram pad ≡ 0 → (m : Machine) → Means file m → o ≡ load_of m image ram pad → Loads file image ram pad o

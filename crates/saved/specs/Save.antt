-- What a save answers, and what the space then holds (02, Ticket 3: "a write").
use Rattle.std.specs.Prelude.{cond, List, [], ◌∷◌, ◌++◌, ℕ, eqb, leb, length, drop}
use Rattle.byte_order.specs.Bytes.{words_at}
use Rattle.image.specs.Formed.{well_formed}
use Rattle.image.specs.Refusals.{◌else◌, first_of}
use Rattle.saved_format.specs.Format.{Machine, machine}
use Rattle.saved_format.specs.Writing.{file_of}
use Rattle.saved.specs.Refusals.{length_tests}

-- the machine that the lent buffers hold: image words 0..43, the 64 COP2 words, RAM and pad
abbrev pub machine_in : List ℕ → List ℕ → List ℕ → Machine
machine_in image ram pad = machine (words_at image 0 44) (words_at image 176 64) ram pad

pub record Saved : Type 0 where
  pub code : ℕ
  pub number : ℕ
  pub space : List ℕ

abbrev pub saved : ℕ → ℕ → List ℕ → Saved
saved code number space = record { code = code; number = number; space = space }

-- codes 1, 3 and 6 for lengths, 2 for the image, 8 for short space, in this order; 0: not refused
unfoldable pub save_code : List ℕ → List ℕ → List ℕ → List ℕ → ℕ
save_code image ram pad space =
    first_of (length_tests (length image) (length ram) (length pad) ((well_formed image else 2) ∷ (leb (length (file_of (machine_in image ram pad))) (length space) else 8) ∷ []))

-- the file at the front of the space, the rest as it was, and the bytes used
abbrev pub stored : Machine → List ℕ → Saved
stored m space = saved 0 (length (file_of m)) (file_of m ++ drop (length (file_of m)) space)

-- refused: nothing is written, and the number is 0
unfoldable pub save_of : List ℕ → List ℕ → List ℕ → List ℕ → Saved
save_of image ram pad space =
    cond (eqb (save_code image ram pad space) 0) (stored (machine_in image ram pad) space) (saved (save_code image ram pad space) 0 space)

-- Ticket 5 of the call itself: image bytes in, words out.
use Rattle.std.specs.Prelude.{List, [], ◌∷◌, ◌≡◌, ℕ, zero, suc, ◌*◌, ◌%◌, ◌^◌, ◌<◌, ◌≤◌, length, get_or, drop}
use Rattle.gte_rows.specs.Rows.{Row}
use Rattle.answer.specs.declared.Answer.{Answer}
use Rattle.image.specs.Image.{geometry_in}
use Rattle.image.specs.Refusals.{image_refusal}
use Rattle.causes.specs.Causes.{causes_of, Causes}
use Rattle.cause_laws.specs.Rows.{RowsExact}

-- n rows, as they stand at the beginning of words
abbrev pub rows_in : ℕ → List ℕ → List Row
rows_in zero ws = []
rows_in (suc n) ws =
    record { bit = get_or ws 0 0; part = get_or ws 1 0; line = get_or ws 2 0; low = get_or ws 3 0; high = get_or ws 4 0 } ∷ rows_in n (drop 5 ws)

-- the words after a call that answers code 0
pub record CausesExact (m : List ℕ) (word : ℕ) (ws : List ℕ) (a : Answer) (ws' : List ℕ) : Type 0 where
  -- so many rows, five words each: they are among the lent words, and no more than 585
  pub count : ℕ
  pub number : a.number ≡ 5 * count
  pub room : a.number ≤ length ws
  pub most : a.number ≤ 585
  -- they are the causes of the command on the image's COP2 registers
  pub rows : RowsExact word (geometry_in m) (rows_in count ws')
  -- nothing else is written
  pub long : length ws' ≡ length ws
  pub behind : drop a.number ws' ≡ drop a.number ws

abbrev pub CausesLaw : Type 0
CausesLaw = (m : List ℕ) (word : ℕ) (ws : List ℕ) (a : Answer) (ws' : List ℕ) → Causes m word ws a ws' → a.code ≡ 0 → CausesExact m word ws a ws'

-- a refused call writes nothing
abbrev pub RefusedLaw : Type 0
RefusedLaw = (m : List ℕ) (word : ℕ) (ws : List ℕ) (a : Answer) (ws' : List ℕ) → Causes m word ws a ws' → (a.code ≡ 0 → ⊥) → ws' ≡ ws

-- code 8: fewer words are lent than the number says, and wherever so many are, the same question has its rows, as many as that
pub record TooShort (m : List ℕ) (word : ℕ) (ws : List ℕ) (a : Answer) : Type 0 where
  pub less : length ws < a.number
  pub enough : (vs : List ℕ) → a.number ≤ length vs → (causes_of m word vs).answer ≡ record { code = 0; number = a.number }

abbrev pub ShortLaw : Type 0
ShortLaw = (m : List ℕ) (word : ℕ) (ws : List ℕ) (a : Answer) (ws' : List ℕ) → Causes m word ws a ws' → a.code ≡ 8 → TooShort m word ws a

-- the top seven bits of the word are ignored: words with the same low 25 bits have the same answer
abbrev pub TopBitsLaw : Type 0
TopBitsLaw = (m : List ℕ) (v w : ℕ) (ws : List ℕ) → v % 2 ^ 25 ≡ w % 2 ^ 25 → causes_of m v ws ≡ causes_of m w ws

-- SR and all else but the COP2 registers is ignored: accepted images with the same of these have the same answer
abbrev pub RegistersLaw : Type 0
RegistersLaw = (m n : List ℕ) (word : ℕ) (ws : List ℕ) → image_refusal m ≡ 0 → image_refusal n ≡ 0 → geometry_in m ≡ geometry_in n → causes_of m word ws ≡ causes_of n word ws

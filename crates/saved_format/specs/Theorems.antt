-- What is proved of the file of a saved machine (02, Ticket 3).
use Rattle.std.specs.Prelude.{List, [], ◌∷◌, ◌++◌, ◌⊎◌, ◌≡◌, ℕ, ◌+◌, ◌*◌, ◌<◌, length}
use Rattle.saved_format.specs.Format.{Bytes, field, Machine, Means, WellFormedFile, MalformedFile}
use Rattle.saved_format.specs.Writing.{Sized, file_of, file_length}

-- ---- meaning

-- two well-formed files with the same meaning are the same bytes
abbrev pub SameBytes : Type 0
SameBytes = (f g : List ℕ) (m : Machine) → Means f m → Means g m → f ≡ g

-- a file has one meaning
abbrev pub OneMeaning : Type 0
OneMeaning = (f : List ℕ) (m n : Machine) → Means f m → Means f n → m ≡ n

-- the file of a machine means that machine
abbrev pub RoundTrip : Type 0
RoundTrip = (m : Machine) → Sized m → Means (file_of m) m

abbrev pub Long : Type 0
Long = (f : List ℕ) (m : Machine) → Means f m → length f ≡ file_length (length m.ram)

-- ---- the number of refusal 7

-- every file is well formed, or malformed with some number
abbrev pub EveryFile : Type 0
EveryFile = (f : List ℕ) → Bytes f → WellFormedFile f ⊎ ((n : ℕ) × MalformedFile f n)

-- and with no other one
abbrev pub OneNumber : Type 0
OneNumber = (f : List ℕ) (a b : ℕ) → MalformedFile f a → MalformedFile f b → a ≡ b

-- a well-formed file that is cut short: the number is the length that is left
abbrev pub CutShort : Type 0
CutShort = (f t : List ℕ) → WellFormedFile (f ++ t) → (t ≡ [] → ⊥) → MalformedFile f (length f)

-- bytes behind a well-formed file: the number is that file's length
abbrev pub BytesBehind : Type 0
BytesBehind = (f t : List ℕ) → WellFormedFile f → (t ≡ [] → ⊥) → MalformedFile (f ++ t) (length f)

-- an empty file
abbrev pub NoFile : Type 0
NoFile = MalformedFile [] 0

-- whatever the contents of tags 1 and 2, a field of another tag than 3 after them, and a first block whose length no block has: tag and
-- lower byte are those of one, and so are shared
abbrev pub NoBlock : Type 0
NoBlock =
    (c g l : List ℕ) (tag : ℕ) → length c ≡ 176 → Bytes c → length g ≡ 256 → Bytes g → (tag ≡ 3 → ⊥)
    → MalformedFile (field 1 c ++ (field 2 g ++ (tag ∷ l))) 438

abbrev pub LongBlock : Type 0
LongBlock =
    (c g l : List ℕ) (lower upper : ℕ) → length c ≡ 176 → Bytes c → length g ≡ 256 → Bytes g → lower < 256 → 32768 < lower + upper * 256
    → MalformedFile (field 1 c ++ (field 2 g ++ (3 ∷ lower ∷ upper ∷ l))) 440

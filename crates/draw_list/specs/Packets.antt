-- Draw lists (02, Ticket 10): what a packet of graphics words is, what it is for a list to split into packets, and what a check of a list
-- answers.
use Rattle.std.specs.Prelude.{List, [], ◌∷◌, ◌++◌, ◌≡◌, ℕ, suc, ◌/◌, ◌≤◌, length}
use Rattle.tables.specs.Table.{Row, ◌⇒◌, lookup}

-- what the top byte of a packet's first word tells of it: how many words it has, that word included; that it is a polyline; nothing
pub data Shape : Type 0 where
  Words : ℕ → Shape
  Polyline : Shape
  Unknown : Shape

unfoldable pub packets : List (Row Shape)
packets =
    (0x20 ⇒ Words 4) ∷ (0x24 ⇒ Words 7) ∷ (0x28 ⇒ Words 5) ∷ (0x2C ⇒ Words 9) ∷ (0x30 ⇒ Words 6) ∷ (0x34 ⇒ Words 9) ∷ (0x38 ⇒ Words 8) ∷ (0x3C ⇒ Words 12)
    ∷ (0x40 ⇒ Words 3) ∷ (0x48 ⇒ Polyline) ∷ (0x50 ⇒ Words 4)
    ∷ (0x60 ⇒ Words 3) ∷ (0x64 ⇒ Words 4) ∷ (0x68 ⇒ Words 2) ∷ (0x70 ⇒ Words 2) ∷ (0x74 ⇒ Words 3) ∷ (0x78 ⇒ Words 2) ∷ (0x7C ⇒ Words 3) ∷ []

unfoldable pub shape_of : ℕ → Shape
shape_of top = lookup packets Unknown top

-- what the first word of a packet tells of it
abbrev pub told_by : ℕ → Shape
told_by word = shape_of (word / 0x100_0000)

-- the word that ends the points of a polyline
abbrev pub line_end : ℕ
line_end = 0x5555_5555

-- n points, of which none is that word, and then the word
pub data Points : ℕ → List ℕ → Type 0 where
  ended : Points 0 (line_end ∷ [])
  point : {x n : ℕ} {l : List ℕ} → (x ≡ line_end → ⊥) → Points n l → Points (suc n) (x ∷ l)

-- as many words as the first one tells, or a polyline of two points or more
pub data Packet : List ℕ → Type 0 where
  fixed : {c : ℕ} {l : List ℕ} → told_by c ≡ Words (suc (length l)) → Packet (c ∷ l)
  polyline : {c n : ℕ} {l : List ℕ} → told_by c ≡ Polyline → Points n l → 2 ≤ n → Packet (c ∷ l)

-- a list as packets, one after the other
pub data Split : List (List ℕ) → List ℕ → Type 0 where
  none : Split [] []
  packet : {p l : List ℕ} {ps : List (List ℕ)} → Packet p → Split ps l → Split (p ∷ ps) (p ++ l)

-- no packet begins the list
abbrev pub NoPacket : List ℕ → Type 0
NoPacket l = (p after : List ℕ) → Packet p → p ++ after ≡ l → ⊥

-- what begins the list is refused: by code 11 where its top byte is unknown; by code 12 where the byte is known, and yet no packet begins
pub data Refused : List ℕ → ℕ → Type 0 where
  unknown : {c : ℕ} {l : List ℕ} → told_by c ≡ Unknown → Refused (c ∷ l) 11
  short : {c : ℕ} {l : List ℕ} → (told_by c ≡ Unknown → ⊥) → NoPacket (c ∷ l) → Refused (c ∷ l) 12

-- the code and the number that a list is answered with: 0 and how many packets it splits into; or the code by which a packet is refused, and
-- how many words the packets before it have
pub data Answered : List ℕ → ℕ → ℕ → Type 0 where
  accepted : {ps : List (List ℕ)} {l : List ℕ} → Split ps l → Answered l 0 (length ps)
  refused : {ps : List (List ℕ)} {l rest : List ℕ} {code : ℕ} → Split ps l → Refused rest code → Answered (l ++ rest) code (length l)

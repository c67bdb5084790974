-- How many words the packet has that begins a list, computed; proofs/Widths has that it is a packet of Packets.
use Rattle.std.specs.Prelude.{cond, List, [], ◌∷◌, ℕ, zero, suc, ◌+◌, ◌-◌, eqb, leb, ltb, length, drop, Option, Some, None}
use Rattle.answer.specs.declared.Refusal.{Refusal}
use Rattle.answer.specs.declared.Refusal.TheVariants.{UnknownPacket, CutPacket}
use Rattle.draw_list.specs.Packets.{Shape, Words, Polyline, Unknown, shape_of, told_by, line_end}

-- how many words stand before the first 55555555h
unfoldable pub points_of : List ℕ → ℕ
points_of [] = 0
points_of (x ∷ l) = cond (eqb x line_end) 0 (suc (points_of l))

-- a packet of n words, where so many are left; 0 where there are fewer
unfoldable pub whole_of : ℕ → ℕ → ℕ
whole_of n left = cond (leb n left) n 0

-- a polyline of n points, with its first word and 55555555h, in the same way
unfoldable pub line_of : ℕ → ℕ → ℕ
line_of n left = cond (ltb n 2) 0 (whole_of (n + 2) left)

-- the packet that begins with a word of this shape before the words l
unfoldable pub begun_by : Shape → List ℕ → ℕ
begun_by (Words n) l = whole_of n (suc (length l))
begun_by Polyline l = line_of (points_of l) (suc (length l))
begun_by Unknown l = 0

-- the packet that begins a list; 0 where none does
unfoldable pub width_of : List ℕ → ℕ
width_of [] = 0
width_of (c ∷ l) = begun_by (told_by c) l

-- the place behind a packet of n words that begins at a place; none where n is 0, and no packet begins
unfoldable pub behind : ℕ → ℕ → Option ℕ
behind at n = cond (eqb n 0) None (Some (at + n))

abbrev pub behind_packet : List ℕ → ℕ → Option ℕ
behind_packet l at = behind at (width_of (drop at l))

-- behind a polyline
abbrev pub behind_line : List ℕ → ℕ → Option ℕ
behind_line l at = behind at (line_of (points_of (drop (at + 1) l)) (length l - at))

-- why no packet begins at a place with a word of this shape
unfoldable pub refusal_of : Shape → ℕ → Refusal
refusal_of (Words n) at = CutPacket at
refusal_of Polyline at = CutPacket at
refusal_of Unknown at = UnknownPacket at

-- ---- the table of the code: the words of a packet by its top byte, 0 where the byte tells no number

unfoldable pub fixed_of : Shape → ℕ
fixed_of (Words n) = n
fixed_of Polyline = 0
fixed_of Unknown = 0

-- of the n bytes from i on
unfoldable pub fixed_from : ℕ → ℕ → List ℕ
fixed_from i zero = []
fixed_from i (suc n) = fixed_of (shape_of i) ∷ fixed_from (suc i) n

abbrev pub fixed_widths : List ℕ
fixed_widths = fixed_from 0 256

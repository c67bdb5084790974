-- The exact values from which the colour commands start: what stands in 001's lines before MAC is stored.
use Rattle.std.specs.Prelude.{ℕ, ◌*◌, ◌/◌, ◌%◌, pos, ◌*ℤ◌}
use Rattle.gte_arithmetic.specs.Triples.{Vector, Wide}

-- R, G and B of a colour word
abbrev pub red : ℕ → ℕ
red c = c % 256

abbrev pub green : ℕ → ℕ
green c = c / 256 % 256

abbrev pub blue : ℕ → ℕ
blue c = c / 65536 % 256

-- [R-as-IR1, G-as-IR2, B-as-IR3] SHL 4
unfoldable pub tones_of : ℕ → Vector → Wide
tones_of c i = record { x = pos (red c) *ℤ i.x *ℤ pos 16; y = pos (green c) *ℤ i.y *ℤ pos 16; z = pos (blue c) *ℤ i.z *ℤ pos 16 }

-- [R, G, B] SHL 16
unfoldable pub levels_of : ℕ → Wide
levels_of c = record { x = pos (red c * 65536); y = pos (green c * 65536); z = pos (blue c * 65536) }

-- [IR1, IR2, IR3] SHL 12
unfoldable pub raised_of : Vector → Wide
raised_of i = record { x = i.x *ℤ pos 4096; y = i.y *ℤ pos 4096; z = i.z *ℤ pos 4096 }

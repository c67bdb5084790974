-- A word of 32 bits and the numbers that it and its parts stand for. A word is a natural below 2^32, a signed value an
-- integer; `to_z w` reads w bits in two's complement, `of_z w` gives the bits of a signed value.
use Rattle.std.specs.Prelude.{Bool, ℕ, ◌/◌, ◌%◌, ◌^◌, eqb, ℤ}
use Rattle.std.specs.Int.{Width, w16, w32}
use mir.Val.{bits, to_z, of_z}

-- the signed value of the low bits, of as many as the width has
abbrev pub low_signed : Width → ℕ → ℤ
low_signed w x = to_z w (x % 2 ^ bits w)

-- the signed value of the upper 16 bits
abbrev pub high_half : ℕ → ℤ
high_half x = to_z w16 (x / 65536)

-- 01 "COP2 registers", sign-extended and zero-extended: the word whose upper bits repeat the sign of the low ones, or are 0
abbrev pub sign_extend : Width → ℕ → ℕ
sign_extend w x = of_z w32 (low_signed w x)

abbrev pub zero_extend : Width → ℕ → ℕ
zero_extend w x = x % 2 ^ bits w

-- bit b of a word is set
abbrev pub bit_at : ℕ → ℕ → Bool
bit_at b n = eqb (n / 2 ^ b % 2) 1

-- COP2 registers (01 "COP2 registers"): what a read of each returns, and what a write does. The 64 words are those of
-- an image: registers 0..31 are the data registers, 32..63 the control registers.
use Rattle.std.specs.Prelude.{cond, List, [], ◌∷◌, map, ◌≡◌, ℕ, zero, suc, ◌+◌, ◌*◌, ◌/◌, ◌%◌, ◌^◌, pos, nat_abs, eqb, get_or, set}
use Rattle.std.specs.Int.Signed.{shr_z}
use Rattle.std.specs.Int.{w16}
use Rattle.integers.specs.Clamp.{clamp}
use Rattle.tables.specs.Table.{Row, ◌⇒◌, lookup}
use Rattle.words.specs.Words.{low_signed, sign_extend, zero_extend}
use Rattle.gte_arithmetic.specs.Checks.{flag_word}

abbrev pub reg : List ℕ → ℕ → ℕ
reg w i = get_or w i 0

-- ---- the kinds of registers
pub data Kind : Type 0 where
  plain : Kind
  signed : Kind  -- sign-extended 16 bits
  unsigned : Kind  -- zero-extended 16 bits
  last : Kind  -- SXYP: reads as register 14
  fields : Kind  -- IRGB and ORGB
  count : Kind  -- LZCR
  flag : Kind

-- every register that is not listed is a plain word
unfoldable pub kinds : List (Row Kind)
kinds =
    (1 ⇒ signed) ∷ (3 ⇒ signed) ∷ (5 ⇒ signed) ∷ (7 ⇒ unsigned)
    ∷ (8 ⇒ signed) ∷ (9 ⇒ signed) ∷ (10 ⇒ signed) ∷ (11 ⇒ signed) ∷ (15 ⇒ last)
    ∷ (16 ⇒ unsigned) ∷ (17 ⇒ unsigned) ∷ (18 ⇒ unsigned) ∷ (19 ⇒ unsigned)
    ∷ (28 ⇒ fields) ∷ (29 ⇒ fields) ∷ (31 ⇒ count)
    ∷ (36 ⇒ signed) ∷ (44 ⇒ signed) ∷ (52 ⇒ signed)
    ∷ (58 ⇒ signed) ∷ (59 ⇒ signed) ∷ (61 ⇒ signed) ∷ (62 ⇒ signed) ∷ (63 ⇒ flag) ∷ []

-- ---- reading
unfoldable pub short : ℕ → ℕ
short x = sign_extend w16 x

unfoldable pub half : ℕ → ℕ
half x = zero_extend w16 x

-- the five-bit field of an IR: shifted right by 7, limited to 0..31
unfoldable pub field : ℕ → ℕ
field x = nat_abs (clamp (pos 0) (pos 31) (shr_z (low_signed w16 x) 128))

unfoldable pub fields_of : ℕ → ℕ → ℕ → ℕ
fields_of a b c = field a + field b * 32 + field c * 1024

-- how many of the n bits below 2^n are equal to `bit`, counted from the top until one is not
unfoldable pub leading_from : ℕ → ℕ → ℕ → ℕ
leading_from zero bit x = 0
leading_from (suc n) bit x = cond (eqb (x / 2 ^ n % 2) bit) (suc (leading_from n bit x)) 0

-- the leading bits that are equal to the sign
unfoldable pub leading : ℕ → ℕ
leading x = leading_from 32 (x / 2 ^ 31) x

abbrev pub read_as : Kind → List ℕ → ℕ → ℕ
read_as plain w i = reg w i
read_as signed w i = short (reg w i)
read_as unsigned w i = half (reg w i)
read_as last w i = reg w 14
read_as fields w i = fields_of (reg w 9) (reg w 10) (reg w 11)
read_as count w i = leading (reg w 30)
read_as flag w i = flag_word (reg w i)

-- what a read of register i returns
unfoldable pub read_of : List ℕ → ℕ → ℕ
read_of w i = read_as (lookup kinds plain i) w i

-- n numbers from k on
abbrev pub up_from : ℕ → ℕ → List ℕ
up_from zero k = []
up_from (suc n) k = k ∷ up_from n (suc k)

-- the 64 words as reads return them
unfoldable pub reads : List ℕ → List ℕ
reads w = map (read_of w) (up_from 64 0)

-- well formed: every word equals what a read of its register returns
abbrev pub WellFormed : List ℕ → Type 0
WellFormed w = reads w ≡ w

-- what the code's storage stands for. Derived registers are worked out when they are read, so any storage will do.
unfoldable pub view : List ℕ → List ℕ
view s = reads s

-- ---- writing
-- SXYP: the screen queue moves, and takes the word
unfoldable pub pushed_xy : ℕ → List ℕ → List ℕ
pushed_xy xy w = set (set (set w 12 (reg w 13)) 13 (reg w 14)) 14 xy

-- IRGB: each IR takes its field by 80h
unfoldable pub spread_fields : ℕ → List ℕ → List ℕ
spread_fields x w = set (set (set w 9 (x % 32 * 128)) 10 (x / 32 % 32 * 128)) 11 (x / 1024 % 32 * 128)

-- OTZ, ORGB and LZCR ignore a write
unfoldable pub written : List ℕ → ℕ → ℕ → List ℕ
written w i x =
    cond (eqb i 7) w
    (cond (eqb i 15) (pushed_xy x w)
    (cond (eqb i 28) (spread_fields x w)
    (cond (eqb i 29) w
    (cond (eqb i 31) w (set w i x)))))

-- the words after a write of x to register i
unfoldable pub write_of : List ℕ → ℕ → ℕ → List ℕ
write_of w i x = reads (written w i x)

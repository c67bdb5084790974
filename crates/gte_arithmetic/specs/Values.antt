-- The values that every command tests, with their ranges (01 "GTE arithmetic"). k is 1, 2 or 3, the number of a MAC.
use Rattle.std.specs.Prelude.{Bool, cond, List, ◌∷◌, ℕ, ◌-◌, ◌^◌, ℤ, pos, negsuc, nat_abs}
use Rattle.std.specs.Int.Signed.{lt_z, shr_z}
use Rattle.integers.specs.Wrap.{wrap}
use Rattle.integers.specs.Clamp.{clamp, outside}
use Rattle.gte_arithmetic.specs.Checks.{or, raise, Test, Check, check, above, below, beyond, division}

-- 2^(12·sf)
abbrev pub scale : Bool → ℕ
scale sf = cond sf 4096 1

-- ---- the ranges. Each is written once: the limited values, the checks and the flags that code promises all cite it

pub record Range : Type 0 where
  pub low : ℤ
  pub high : ℤ

abbrev pub range : ℤ → ℤ → Range
range lo hi = record { low = lo; high = hi }

-- a sum for MAC1..3: 44 signed bits
abbrev pub mac_range : Range
mac_range = range (negsuc (2 ^ 43 - 1)) (pos (2 ^ 43 - 1))

-- a value for MAC0: 32 signed bits
abbrev pub mac0_range : Range
mac0_range = range (negsuc (2 ^ 31 - 1)) (pos (2 ^ 31 - 1))

-- the lowest IR: -8000h, or 0 with lm
abbrev pub lowest : Bool → ℤ
lowest lm = cond lm (pos 0) (negsuc 0x7fff)

-- IR1..3
abbrev pub ir_range : Bool → Range
ir_range lm = range (lowest lm) (pos 0x7fff)

-- colours
abbrev pub colour_range : Range
colour_range = range (pos 0) (pos 0xff)

-- SZ3 and OTZ
abbrev pub depth_range : Range
depth_range = range (pos 0) (pos 0xffff)

-- SX and SY
abbrev pub screen_range : Range
screen_range = range (negsuc 0x3ff) (pos 0x3ff)

-- IR0
abbrev pub factor_range : Range
factor_range = range (pos 0) (pos 0x1000)

-- a value limited to a range, and the bit that this sets where it changes the value
abbrev pub limited : Range → ℤ → ℤ
limited r z = clamp r.low r.high z

abbrev pub limit_flag : Range → ℤ → ℕ → ℕ
limit_flag r z bit = raise (outside r.low r.high z) bit

-- the same as a test
abbrev pub exceeds : Range → ℤ → Test
exceeds r z = beyond z r.low r.high

-- ---- the values

-- MAC1..3: the exact value wraps to 44 bits, is shifted right by 12·sf, and its low 32 bits are stored
unfoldable pub mac_of : Bool → ℤ → ℤ
mac_of sf x = wrap (2 ^ 31) (shr_z (wrap (2 ^ 43) x) (scale sf))

-- IR1..3 from stored MAC
unfoldable pub ir_of : Bool → ℤ → ℤ
ir_of lm m = limited (ir_range lm) m

-- what a colour is limited from: stored MAC/16, rounded down
abbrev pub sixteenth : ℤ → ℤ
sixteenth m = shr_z m 16

-- a colour from stored MAC
unfoldable pub colour_of : ℤ → ℕ
colour_of m = nat_abs (limited colour_range (sixteenth m))

-- SZ3 and OTZ
unfoldable pub depth_of : ℤ → ℕ
depth_of z = nat_abs (limited depth_range z)

-- SX and SY
unfoldable pub screen_of : ℤ → ℤ
screen_of x = limited screen_range x

-- IR0
unfoldable pub factor_of : ℤ → ℕ
factor_of x = nat_abs (limited factor_range x)

-- ---- the flags that the tests of sums raise, where code names the bits

-- bits for a value above a range and below it
abbrev pub end_flags : Range → ℤ → ℕ → ℕ → ℕ
end_flags r x over under = or (raise (lt_z r.high x) over) (raise (lt_z x r.low) under)

-- of a sum for MAC1..3
unfoldable pub sum_flag : ℕ → ℕ → ℤ → ℕ
sum_flag over under x = end_flags mac_range x over under

-- of a value for MAC0
unfoldable pub mac0_flag : ℤ → ℕ
mac0_flag x = end_flags mac0_range x 0x1_0000 0x8000

-- ---- the same as checks, each in front of those that follow

-- MAC k outside of 44 signed bits: bits 30, 29, 28 above, 27, 26, 25 below
abbrev pub sum_checks : ℕ → ℕ → ℤ → List Check → List Check
sum_checks k line x rest = check (31 - k) line (above x mac_range.high) ∷ check (28 - k) line (below x mac_range.low) ∷ rest

-- MAC0 outside of 32 signed bits: bit 16 above, 15 below
abbrev pub mac0_checks : ℕ → ℤ → List Check → List Check
mac0_checks line x rest = check 16 line (above x mac0_range.high) ∷ check 15 line (below x mac0_range.low) ∷ rest

-- IR k: bits 24, 23, 22
abbrev pub ir_check : ℕ → ℕ → Bool → ℤ → Check
ir_check k line lm m = check (25 - k) line (exceeds (ir_range lm) m)

-- colour k: bits 21, 20, 19
abbrev pub colour_check : ℕ → ℕ → ℤ → Check
colour_check k line m = check (22 - k) line (exceeds colour_range (sixteenth m))

-- SZ3 and OTZ: bit 18
abbrev pub depth_check : ℕ → ℤ → Check
depth_check line z = check 18 line (exceeds depth_range z)

-- the quotient: bit 17
abbrev pub division_check : ℕ → ℕ → ℕ → Check
division_check line h sz = check 17 line (division h sz)

-- SX and SY: bits 14 and 13
abbrev pub screen_check : ℕ → ℕ → ℤ → Check
screen_check bit line x = check bit line (exceeds screen_range x)

-- IR0: bit 12
abbrev pub factor_check : ℕ → ℤ → Check
factor_check line x = check 12 line (exceeds factor_range x)

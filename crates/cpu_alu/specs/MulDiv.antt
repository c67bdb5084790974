-- Multiplication and division of words (01 "One step"). a and b are words; `to_z w32` is the signed value of one.
use Rattle.std.specs.Prelude.{◌≡◌, ℕ, ◌+◌, ◌*◌, ◌/◌, ◌%◌, ◌^◌, ◌<◌, cond, pos, ◌*ℤ◌, ◌==◌, int_div, int_lt, int_rem}
use Rattle.std.specs.Int.Signed.{shr_z}
use Rattle.std.specs.Int.{w32, w64}
use Rattle.std.proofs.Common.{Fits, to_z}
use Rattle.integers.specs.Floor.{mod_z}
use Rattle.cpu_alu.specs.declared.mul_div.HiLo.{HiLo}

-- MULT and MULTU: HI is the high and LO the low word of the 64-bit product
unfoldable pub product_of : ℕ → ℕ → HiLo
product_of a b = record { hi = mod_z (shr_z (to_z w32 a *ℤ to_z w32 b) (2 ^ 32)) (2 ^ 32); lo = mod_z (to_z w32 a *ℤ to_z w32 b) (2 ^ 32) }

unfoldable pub unsigned_product_of : ℕ → ℕ → HiLo
unsigned_product_of a b = record { hi = a * b / 2 ^ 32; lo = a * b % 2 ^ 32 }

-- HI and LO side by side
abbrev pub joined : HiLo → ℕ
joined r = r.hi * 2 ^ 32 + r.lo

-- each of 32 bits
abbrev pub Words : HiLo → Type 0
Words r = (r.hi < 2 ^ 32) × (r.lo < 2 ^ 32)

-- r is the one pair of words of which `right` holds
pub record Only (right : HiLo → Type 0) (r : HiLo) : Type 0 where
  pub words : Words r
  pub holds : right r
  pub only : (s : HiLo) → Words s → right s → s ≡ r

-- "HI and LO are shown to be the exact 64-bit product for all pairs of words" (02, Ticket 4)
abbrev pub UnsignedExact : Type 0
UnsignedExact = (a b : ℕ) → Fits w32 a → Fits w32 b → Only (λ r. joined r ≡ a * b) (unsigned_product_of a b)

abbrev pub SignedExact : Type 0
SignedExact = (a b : ℕ) → Fits w32 a → Fits w32 b → Only (λ r. to_z w64 (joined r) ≡ to_z w32 a *ℤ to_z w32 b) (product_of a b)

-- DIV truncates toward zero; by 0 HI is the dividend and LO -1, or 1 where the dividend is negative
unfoldable pub quotient_of : ℕ → ℕ → HiLo
quotient_of a b =
    cond (b == 0)
    (record { hi = a; lo = cond (int_lt (to_z w32 a) (pos 0)) 1 0xffff_ffff })
    (record { hi = mod_z (int_rem (to_z w32 a) (to_z w32 b)) (2 ^ 32); lo = mod_z (int_div (to_z w32 a) (to_z w32 b)) (2 ^ 32) })

-- DIVU; by 0 HI is the dividend and LO FFFFFFFFh
unfoldable pub unsigned_quotient_of : ℕ → ℕ → HiLo
unsigned_quotient_of a b = cond (b == 0) (record { hi = a; lo = 0xffff_ffff }) (record { hi = a % b; lo = a / b })

-- "80000000h / −1: LO = 80000000h, HI = 0", the low words of the exact quotient and remainder
abbrev pub LeastByMinusOne : Type 0
LeastByMinusOne = quotient_of 0x8000_0000 0xffff_ffff ≡ record { hi = 0; lo = 0x8000_0000 }

-- The perspective quotient of RTPS and RTPT: the hardware's (02 Ticket 2, after 001 "GTE Division Inaccuracy"), and the
-- printed formula that 01 had before. All divisions round down.
use Rattle.std.specs.Prelude.{cond, ◌≡◌, ℕ, zero, suc, ◌+◌, ◌*◌, ◌-◌, ◌/◌, ◌^◌, ◌≤◌, ◌<◌, min, leb}
use Rattle.std.specs.Int.Count.{count_leading_zeros}

-- ---- the hardware's

-- entry i of the table, 0 to 100h; where the difference would be negative (at 100h alone), it is 0
unfoldable pub entry_of : ℕ → ℕ
entry_of i = (0x40000 / (i + 0x100) + 1) / 2 - 0x101

-- n entries from i on in one number, eight bits to an entry, the first one lowest: how code holds the table
unfoldable pub packed : ℕ → ℕ → ℕ
packed zero i = 0
packed (suc n) i = entry_of i + packed n (suc i) * 256

-- the divisor, 8000h to FFFFh, after its two refinements: about 2^32 divided by it
unfoldable pub refined : ℕ → ℕ
refined d =
    let u = 0x101 + entry_of ((d - 0x7fc0) / 128) in
    let d1 = (0x200_0080 - d * u) / 256 in
    (0x80 + d1 * u) / 256

-- where H < 2·SZ3
unfoldable pub quotient : ℕ → ℕ → ℕ
quotient h sz =
    let z = count_leading_zeros 16 sz in
    let n = h * 2 ^ z in
    let d = sz * 2 ^ z in
    min 0x1ffff ((n * refined d + 0x8000) / 0x10000)

-- for any H and SZ3: 1FFFFh when H ≥ 2·SZ3
unfoldable pub ratio_of : ℕ → ℕ → ℕ
ratio_of h sz = cond (leb (2 * sz) h) 0x1ffff (quotient h sz)

-- ---- the printed formula

unfoldable pub printed : ℕ → ℕ → ℕ
printed h sz = (h * 0x20000 / sz + 1) / 2

-- the hardware's quotient is at most `under` below the printed one and at most `over` above it, for every SZ3 of 16 bits and
-- every H below 2·SZ3
abbrev pub Apart : ℕ → ℕ → Type 0
Apart under over = (h sz : ℕ) → sz < 65536 → h < 2 * sz → (printed h sz ≤ quotient h sz + under) × (quotient h sz ≤ printed h sz + over)

-- never more than 4 apart, as Ticket 2 asks; more sharply from 3 below to 2 above, and a pair for each end that reaches it
pub record Differ : Type 0 where
  pub four : Apart 4 4
  pub exact : Apart 3 2
  pub lowest : quotient 1991 1023 + 3 ≡ printed 1991 1023
  pub highest : quotient 413 269 ≡ printed 413 269 + 2

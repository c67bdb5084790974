-- The part of memory that a window is, as one number for C.
use Rattle.std.specs.Prelude.{cond, ◌≡◌, ℕ, ◌+◌, ◌*◌, ◌/◌, ◌%◌, ◌^◌}
use Rattle.window.specs.declared.Part.{Part}

-- 2^63 where it is in the pad, plus the place of its first byte × 2^32, plus its length
abbrev pub part_number : Part → ℕ
part_number p = cond p.pad (2 ^ 63) 0 + (p.at * 2 ^ 32 + p.length)

-- what C takes out of a number is the part
pub record PartRead (n : ℕ) (p : Part) : Type 0 where
  pub pad : n / 2 ^ 63 ≡ cond p.pad 1 0
  pub place : n / 2 ^ 32 % 2 ^ 31 ≡ p.at
  pub length : n % 2 ^ 32 ≡ p.length

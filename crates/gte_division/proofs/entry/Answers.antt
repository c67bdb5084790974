-- The entry is taken out of its word.
use mathlib.Core.Path.{◌≡◌, refl, sym, ap, ◌∙◌}
use Prim.Native.Nat.{ℕ, zero, suc, ◌+◌, ◌*◌, ◌/◌, ◌%◌, ◌^◌}
use native.Mathlib.Nat.{pow-suc}
use native.Mathlib.Omega.{arith}
use lib.Pow.{pow-add}
use Rattle.gte_division.specs.Division.{entry_of, packed}
use Rattle.gte_division.proofs.Table.{packed_at}
use Rattle.gte_division.proofs.entry.Goals as goal

bytes : (j : ℕ) → 2 ^ (j * 8) ≡ 256 ^ j
bytes zero = refl
bytes (suc j) = ap (λ (n : ℕ). 2 ^ n) (more j) ∙ pow-add 2 (j * 8) 8 ∙ ap (λ (n : ℕ). n * 256) (bytes j) ∙ sym (pow-suc 256 j)
  where
    more : (j : ℕ) → suc j * 8 ≡ j * 8 + 8
    more j = omega arith

byte : (i : ℕ) → packed 8 (i / 8 * 8) / 2 ^ (i % 8 * 8) % 256 ≡ entry_of i
byte i =
    ap (λ (p : ℕ). packed 8 (i / 8 * 8) / p % 256) (bytes (i % 8))
    ∙ packed_at 8 (i % 8) (i / 8 * 8) (omega arith) ∙ ap entry_of (whole i)
  where
    whole : (i : ℕ) → i / 8 * 8 + i % 8 ≡ i
    whole i = omega arith

pub returns-clause-is : goal.returns-clause-is
returns-clause-is c = rw c.eight_entries.ensures (byte _)

-- A signed result as a word: what `checked_add` and `checked_sub` answer is what `or_overflow` says.
use Rattle.std.proofs.Common.{◌≡◌, ◌^◌, ◌<◌, ◌≤◌, ℕ, Bool, true, false, ltb, ltb-true, ltb-false, None, Some, ℤ, pos, negsuc, refl, arith, w32, SFits, of_z}
use Rattle.std.proofs.lemmas.Bool.Decides.{nat_tests}
use Rattle.integers.specs.Bits.{of_z_mod}
pub use Rattle.integers.specs.Bound.{back}
use Rattle.cpu_alu.specs.Alu.{or_overflow}

pub fits_word : (z : ℤ) → SFits w32 z → or_overflow z ≡ Some (of_z w32 z)
fits_word (pos n) f = rw (← (of_z_mod w32 (pos n) f)) (grind (arith, nat_tests))
fits_word (negsuc n) f = rw (← (of_z_mod w32 (negsuc n) f)) (grind (arith, nat_tests))

-- a magnitude of 2^31 or more
large : {n : ℕ} → (n < 2 ^ 31 → ⊥) → 2 ^ 31 ≤ n
large {n} f = by_test (ltb n (2 ^ 31)) refl where
  by_test : (t : Bool) → ltb n (2 ^ 31) ≡ t → 2 ^ 31 ≤ n
  by_test true e = absurd (f (ltb-true n (2 ^ 31) e))
  by_test false e = ltb-false n (2 ^ 31) e

pub misfits : (z : ℤ) → (SFits w32 z → ⊥) → or_overflow z ≡ None
misfits (pos n) f = let h : 2 ^ 31 ≤ n = large (λ k. f (record { sfits = k })) in grind (arith, nat_tests)
misfits (negsuc n) f = let h : 2 ^ 31 ≤ n = large (λ k. f (record { sfits = k })) in grind (arith, nat_tests)

pub ruleset checked_words = (fits_word, misfits, back)

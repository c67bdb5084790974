-- Registers by their number: what the 64 words hold at a number that is not a literal is what the table of kinds says of it.
use mathlib.Core.Path.{◌≡◌, refl, sym, ap, ◌∙◌}
use mathlib.Core.List.{List, map}
use Prim.Native.Nat.{ℕ, zero, suc, ◌+◌, ◌%◌, ◌<◌}
use native.Mathlib.Omega.{arith}
use lib.ListN.{get_or}
use Rattle.tables.specs.Table.{NoneOf, lookup_none}
use Rattle.gte_registers.specs.Registers.{reg, plain, kinds, read_of, up_from, reads, view}

at_place : (f : ℕ → ℕ) (n k i : ℕ) → i < n → get_or (map f (up_from n k)) i 0 ≡ f (k + i)
at_place f zero k i h = let e : ⊥ = omega arith in absurd e
at_place f (suc n) k zero h = ap f (plus_zero k)
  where
    plus_zero : (k : ℕ) → k ≡ k + 0
    plus_zero k = omega arith
at_place f (suc n) k (suc i) h = at_place f n (suc k) i (omega arith) ∙ ap f (plus_suc k i)
  where
    plus_suc : (k i : ℕ) → suc k + i ≡ k + suc i
    plus_suc k i = omega arith

pub read_at : (w : List ℕ) (i : ℕ) → i < 64 → reg (reads w) i ≡ read_of w i
unfolding reads
read_at w i h = at_place (read_of w) 64 0 i h ∙ ap (read_of w) (plus i)
  where
    plus : (i : ℕ) → 0 + i ≡ i
    plus i = omega arith

-- a read of a register that the code names by a literal
pub at_key : (s : List ℕ) (i k : ℕ) {r : ℕ} → i % 64 ≡ k → r ≡ read_of s k → r ≡ reg (view s) (i % 64)
unfolding view
at_key s i k e h = h ∙ ap (read_of s) (sym e) ∙ sym (read_at s (i % 64) (omega arith))

-- a read of a register whose word is read before its number is looked at
pub at_word : (s : List ℕ) (i k : ℕ) (f : ℕ → ℕ) {r : ℕ} → i % 64 ≡ k → r ≡ f (reg s (i % 64)) → f (reg s k) ≡ read_of s k → r ≡ reg (view s) (i % 64)
at_word s i k f e h g = at_key s i k e (h ∙ ap (λ (x : ℕ). f (reg s x)) e ∙ g)

-- a read of a register that is not in the table
pub at_rest : (s : List ℕ) (i : ℕ) → NoneOf kinds (i % 64) Unit → reg s (i % 64) ≡ reg (view s) (i % 64)
unfolding view read_of
at_rest s i g = sym (read_at s (i % 64) (omega arith) ∙ rw (lookup_none kinds plain (i % 64) Unit g) refl)

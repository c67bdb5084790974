-- Numbers are compared.
use mathlib.Core.Logic.{◌⊎◌, inl, inr, ⊎_elim}
use mathlib.Core.Path.{◌≡◌}
use Prim.Native.Nat.{ℕ, zero, suc, ◌<◌, ◌≤◌}
use native.Mathlib.Omega.{arith}

pub le_or_lt : (k n : ℕ) → (k ≤ n) ⊎ (n < k)
le_or_lt zero n = inl (omega arith)
le_or_lt (suc k) zero = inr (omega arith)
le_or_lt (suc k) (suc n) = ⊎_elim (λ h. inl (omega arith)) (λ h. inr (omega arith)) (le_or_lt k n)

pub same_or_not : (a b : ℕ) → (a ≡ b) ⊎ (a ≡ b → ⊥)
same_or_not a b = ⊎_elim (λ h. ⊎_elim (λ k. inl (omega arith)) (λ k. inr (λ e. omega arith)) (le_or_lt b a)) (λ h. inr (λ e. omega arith)) (le_or_lt a b)

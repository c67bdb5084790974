-- A rule that holds at each of a row of numbers, by one test that the prover computes over the whole row.
use Rattle.std.specs.Prelude.{Bool, true, false, ◌&&◌, ℕ, zero, suc, ◌+◌, ◌≤◌, ◌<◌, T}
use Rattle.std.proofs.Common.{subst, arith}
use Rattle.std.proofs.Math.Decide.{dec_lt}

-- the test holds at the n numbers from i on
abbrev pub every : (ℕ → Bool) → ℕ → ℕ → Bool
every f i zero = true
every f i (suc n) = f i && every f (suc i) n

-- the two halves of a test
pub and_left : (a b : Bool) → T (a && b) → T a
and_left true b t = tt
and_left false b t = t

pub and_right : (a b : Bool) → T (a && b) → T b
and_right true b t = t
and_right false b t = absurd t

-- a test that holds at all of them holds at any one
pub at : (f : ℕ → Bool) (i n : ℕ) → T (every f i n) → (k : ℕ) → i ≤ k → k < i + n → T (f k)
at f i zero t k l h = let e : ⊥ = omega arith in absurd e
at f i (suc n) t k l h = go (dec_lt i k) (λ p. at f (suc i) n (and_right (f i) (every f (suc i) n) t) k p (omega arith))
  where
    go : Dec (i < k) → (i < k → T (f k)) → T (f k)
    go (yes p) later = later p
    go (no p) later = subst (λ (m : ℕ). T (f m)) (omega arith) (and_left (f i) (every f (suc i) n) t)

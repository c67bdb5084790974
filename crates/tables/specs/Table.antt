-- A table from numbers to values, as a manual prints one: each row has a number and what stands under it.
use Rattle.std.specs.Prelude.{cond, List, [], ◌∷◌, ◌≡◌, refl, ℕ, zero, suc, ◌+◌, ◌≤◌, eqb}
use Rattle.std.proofs.Common.{arith, ne_eqb}

infix 20 ◌⇒◌
pub data Row (A : Type 0) : Type 0 where
  ◌⇒◌ : ℕ → A → Row A

-- what stands under n, or `other` where no row has it
abbrev pub lookup : {A : Type 0} → List (Row A) → A → ℕ → A
lookup [] other n = other
lookup ((k ⇒ a) ∷ rows) other n = cond (eqb n k) a (lookup rows other n)

-- ---- the law for the last arm of a `match` over a table's numbers

-- n is none of the numbers, and G holds: what the arm knows, a pair for each number that it has passed
unfoldable pub NoneOf : {A : Type 0} → List (Row A) → ℕ → Type 0 → Type 0
NoneOf [] n G = G
NoneOf ((k ⇒ a) ∷ rows) n G = NoneOf rows n (G × (n ≡ k → ⊥))

kept : {A : Type 0} (rows : List (Row A)) (n : ℕ) (G : Type 0) → NoneOf rows n G → G
unfolding NoneOf
kept [] n G g = g
kept ((k ⇒ a) ∷ rows) n G g = (kept rows n (G × (n ≡ k → ⊥)) g).0

pub lookup_none : {A : Type 0} (rows : List (Row A)) (other : A) (n : ℕ) (G : Type 0) → NoneOf rows n G → lookup rows other n ≡ other
unfolding NoneOf
lookup_none [] other n G g = refl
lookup_none ((k ⇒ a) ∷ rows) other n G g = rw (ne_eqb n k (kept rows n (G × (n ≡ k → ⊥)) g).1) (lookup_none rows other n (G × (n ≡ k → ⊥)) g)

-- the same where the numbers are the n from i on: the last arm is for those past them
abbrev pub count_from : ℕ → ℕ → List (Row ℕ)
count_from i zero = []
count_from i (suc n) = (i ⇒ i) ∷ count_from (suc i) n

pub past : (i n k : ℕ) (G : Type 0) → i ≤ k → NoneOf (count_from i n) k G → i + n ≤ k
unfolding NoneOf
past i zero k G l g = omega arith
past i (suc n) k G l g =
    let other = (kept (count_from (suc i) n) k (G × (k ≡ i → ⊥)) g).1 in
    let h = past (suc i) n k (G × (k ≡ i → ⊥)) (omega arith) g in
    omega arith

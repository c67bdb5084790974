-- The entries of the table, and how they stand in a packed number.
use mathlib.Core.Path.{◌≡◌, refl, sym, ap, ◌∙◌}
use Prim.Native.Nat.{ℕ, zero, suc, ◌+◌, ◌*◌, ◌/◌, ◌%◌, ◌^◌, ◌≤◌, ◌<◌}
use native.Mathlib.Decide.{dec_lt}
use native.Mathlib.Nat.{mul-le-mul, div-mul-le_self, div-div-eq-div-mul, pow-suc, mul_comm, add-zero}
use native.Mathlib.Omega.{arith}
use Rattle.gte_division.specs.Division.{entry_of, packed}

-- a quotient by at least m is at most q, where q + 1 times m is more than the dividend
quotient_≤ : (a n m q : ℕ) → m ≤ n → a < suc q * m → a / n ≤ q
quotient_≤ a n m q l h = go (dec_lt q (a / n))
  where
    go : Dec (q < a / n) → a / n ≤ q
    go (yes p) = let e : ⊥ = omega (arith, mul-le-mul p l, div-mul-le_self a n) in absurd e
    go (no p) = omega arith

pub entry_below : (i : ℕ) → entry_of i < 256
unfolding entry_of
entry_below i = let h = quotient_≤ 0x40000 (i + 0x100) 0x100 0x400 (omega arith) (omega arith) in omega arith

-- from 256 on the rule gives 0
pub entry_none : (i : ℕ) → 256 ≤ i → entry_of i ≡ 0
unfolding entry_of
entry_none i l = let h = quotient_≤ 0x40000 (i + 0x100) 0x200 0x200 (omega arith) (omega arith) in omega arith

pub packed_none : (n i : ℕ) → 256 ≤ i → packed n i ≡ 0
unfolding packed
packed_none zero i l = refl
packed_none (suc n) i l = rw (entry_none i l, packed_none n (suc i) (omega arith))

-- entry j of n
pub packed_at : (n j i : ℕ) → j < n → packed n i / 256 ^ j % 256 ≡ entry_of (i + j)
unfolding packed
packed_at zero j i h = let e : ⊥ = omega arith in absurd e
packed_at (suc n) zero i h = lowest (entry_of i) (packed n (suc i)) (entry_below i) ∙ ap entry_of (sym (add-zero i))
  where
    lowest : (e rest : ℕ) → e < 256 → (e + rest * 256) / 1 % 256 ≡ e
    lowest e rest b = omega arith
packed_at (suc n) (suc j) i h =
    ap (λ (p : ℕ). (entry_of i + packed n (suc i) * 256) / p % 256) (pow-suc 256 j ∙ mul_comm (256 ^ j) 256)
    ∙ ap (λ (x : ℕ). x % 256) (sym (div-div-eq-div-mul (entry_of i + packed n (suc i) * 256) 256 (256 ^ j)) ∙ ap (λ (x : ℕ). x / 256 ^ j) (rest (entry_of i) (packed n (suc i)) (entry_below i)))
    ∙ packed_at n j (suc i) (omega arith) ∙ ap entry_of (next i j)
  where
    rest : (e r : ℕ) → e < 256 → (e + r * 256) / 256 ≡ r
    rest e r b = omega arith

    next : (i j : ℕ) → suc i + j ≡ i + suc j
    next i j = omega arith

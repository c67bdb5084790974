-- A limit at both ends of a range.
use Rattle.std.specs.Prelude.{◌≡◌, Bool, true, false, not, cond, ◌||◌, ℕ, T, ℤ, ◌≤ℤ◌}
use Rattle.std.proofs.Common.{subst}
use Rattle.std.specs.Int.Signed.{lt_z, lt_z_no, ≤ℤ_refl}
use Rattle.integers.specs.Parts.{cond_ind, no_lt, Mag}
use Rattle.integers.specs.Bound.{mag_between}

-- z limited to lo..hi, in the order in which code tests it
unfoldable pub clamp : ℤ → ℤ → ℤ → ℤ
clamp lo hi z = cond (lt_z z lo) lo (cond (lt_z hi z) hi z)

-- z lies outside of lo..hi: the condition of a saturation flag, in the same order
abbrev pub outside : ℤ → ℤ → ℤ → Bool
outside lo hi z = lt_z z lo || lt_z hi z

-- a number in the range is left alone: from the bounds, and from a flag that is clear
pub clamp_in : {lo hi z : ℤ} → lo ≤ℤ z → z ≤ℤ hi → clamp lo hi z ≡ z
unfolding clamp
clamp_in h k = rw (no_lt h, no_lt k)

both_clear : (s t : Bool) → (s || t) ≡ false → T (not s) × T (not t)
both_clear true t e = let k = subst T e tt in absurd k
both_clear false true e = let k = subst T e tt in absurd k
both_clear false false e = (tt, tt)

pub inside : (lo hi z : ℤ) → outside lo hi z ≡ false → (lo ≤ℤ z) × (z ≤ℤ hi)
inside lo hi z e = let k = both_clear (lt_z z lo) (lt_z hi z) e in (lt_z_no k.0, lt_z_no k.1)

pub clamp_clear : (lo hi z : ℤ) → outside lo hi z ≡ false → clamp lo hi z ≡ z
clamp_clear lo hi z e = let k = inside lo hi z e in clamp_in k.0 k.1

-- what both ends have, and a number between them has, the limited number has
pub clamp_ind : (lo hi z : ℤ) (P : ℤ → Type 0) → P lo → P hi → (lo ≤ℤ z → z ≤ℤ hi → P z) → P (clamp lo hi z)
unfolding clamp
clamp_ind lo hi z P l h f =
    cond_ind (lt_z z lo) lo (cond (lt_z hi z) hi z) P (λ s. l)
    (λ s. cond_ind (lt_z hi z) hi z P (λ t. h) (λ t. f (lt_z_no s) (lt_z_no t)))

-- so it lies in the range, and has a bound that both ends have
pub clamp_low : (lo hi z : ℤ) → lo ≤ℤ hi → lo ≤ℤ clamp lo hi z
clamp_low lo hi z h = clamp_ind lo hi z (λ x. lo ≤ℤ x) (≤ℤ_refl lo) h (λ l u. l)

pub clamp_high : (lo hi z : ℤ) → lo ≤ℤ hi → clamp lo hi z ≤ℤ hi
clamp_high lo hi z h = clamp_ind lo hi z (λ x. x ≤ℤ hi) h (≤ℤ_refl hi) (λ l u. u)

pub clamp_mag : (lo hi z : ℤ) {n : ℕ} → Mag lo n → Mag hi n → Mag (clamp lo hi z) n
clamp_mag lo hi z {n} f g = clamp_ind lo hi z (λ x. Mag x n) f g (λ l u. mag_between z f g l u)

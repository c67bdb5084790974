-- The bridge from the integers to `omega`, which knows naturals alone.
-- An integer is its positive part less its negative part, of which one is 0. Each law turns one statement on
-- integers into one on these two naturals, or back; `zarith` lists them, and `omega zarith` then reads and
-- proves `≤ℤ`, `<ℤ`, `≡`, `SFits`, `Mag` and the flags of signed tests. What is left to list by hand is one fact
-- for each sum, difference or product in the goal, as `omega (zarith, parts_add a b)`.
-- Where a literal has to compute, the answer says `unfolding pos_part neg_part`.
use Rattle.std.specs.Prelude.{◌≡◌, refl, Bool, true, false, not, cond, ◌⊎◌, ℕ, zero, suc, ◌+◌, ◌-◌, ◌^◌, ◌<◌, ◌≤◌, ℤ, pos, negsuc, neg_ℤ, ◌+ℤ◌, ◌-ℤ◌, nat_abs, ◌≤ℤ◌, ◌<ℤ◌, T, ltb}
use Rattle.std.proofs.Common.{sym, ap, ◌∙◌, subst, inl, inr, arith, leb→le, le→leb, ltb→lt, lt→ltb, nltb→le}
use Rattle.std.proofs.Math.Decide.{dec_lt}
use Rattle.std.proofs.Math.IntN.{sub_ℕ}
use Rattle.std.specs.Int.Signed.{le_z, lt_z, lt_z_no, lt_z_yes, le_z_yes, clash_ℤ, mag, non_neg}
use Rattle.std.specs.Int.{Width}
use mir.Val.{SFits, hbits}

-- z where z is at least 0, else 0
unfoldable pub pos_part : ℤ → ℕ
pos_part (pos n) = n
pos_part (negsuc n) = zero

-- -z where z is below 0, else 0
unfoldable pub neg_part : ℤ → ℕ
neg_part (pos n) = zero
neg_part (negsuc n) = suc n

-- one of the two is 0: for a bound on both at once
pub one_part : (z : ℤ) → (pos_part z ≡ 0) ⊎ (neg_part z ≡ 0)
unfolding pos_part neg_part
one_part (pos n) = inr refl
one_part (negsuc n) = inl refl

-- a choice by a flag has what each side has, given what the flag says: to take a `cond` apart in a statement
pub cond_ind : {A : Type 0} (c : Bool) (x y : A) (P : A → Type 0) → (T c → P x) → (T (not c) → P y) → P (cond c x y)
cond_ind true x y P f g = f tt
cond_ind false x y P f g = g tt

-- ---- sums and differences: the fact to list for each one in the goal

-- a difference of two naturals
pub parts_subℕ : (a b : ℕ) → pos_part (sub_ℕ a b) + b ≡ neg_part (sub_ℕ a b) + a
unfolding pos_part neg_part
parts_subℕ a b = cond_ind (ltb a b) (negsuc (b - suc a)) (pos (a - b)) (λ z. pos_part z + b ≡ neg_part z + a)
    (λ t. let h = ltb→lt a b t in omega arith) (λ t. let h = nltb→le a b t in omega arith)

pub parts_add : (a b : ℤ) → pos_part (a +ℤ b) + (neg_part a + neg_part b) ≡ neg_part (a +ℤ b) + (pos_part a + pos_part b)
unfolding pos_part neg_part
parts_add (pos a) (pos b) = omega arith
parts_add (pos a) (negsuc b) = omega (arith, parts_subℕ a (suc b))
parts_add (negsuc a) (pos b) = omega (arith, parts_subℕ b (suc a))
parts_add (negsuc a) (negsuc b) = omega arith

-- the parts of -z, exchanged
pub pos_part_neg : (a : ℤ) → pos_part (neg_ℤ a) ≡ neg_part a
unfolding pos_part neg_part
pos_part_neg (pos zero) = refl
pos_part_neg (pos (suc n)) = refl
pos_part_neg (negsuc n) = refl

pub neg_part_neg : (a : ℤ) → neg_part (neg_ℤ a) ≡ pos_part a
unfolding pos_part neg_part
neg_part_neg (pos zero) = refl
neg_part_neg (pos (suc n)) = refl
neg_part_neg (negsuc n) = refl

pub parts_sub : (a b : ℤ) → pos_part (a -ℤ b) + (neg_part a + pos_part b) ≡ neg_part (a -ℤ b) + (pos_part a + neg_part b)
parts_sub a b = omega (arith, parts_add a (neg_ℤ b), pos_part_neg b, neg_part_neg b)

-- the absolute value, by the two parts, and by their differences, of which one is 0: the second is what an order wants
pub nat_abs_parts : (z : ℤ) → nat_abs z ≡ pos_part z + neg_part z
unfolding pos_part neg_part
nat_abs_parts (pos n) = omega arith
nat_abs_parts (negsuc n) = omega arith

pub nat_abs_gap : (z : ℤ) → nat_abs z ≡ (pos_part z - neg_part z) + (neg_part z - pos_part z)
unfolding pos_part neg_part
nat_abs_gap (pos n) = omega arith
nat_abs_gap (negsuc n) = omega arith

-- ---- order and equality, both ways
le_z_to : (a b : ℤ) → T (le_z a b) → pos_part a + neg_part b ≤ pos_part b + neg_part a
unfolding pos_part neg_part
le_z_to (pos a) (pos b) t = let h = leb→le a b t in omega arith
le_z_to (pos a) (negsuc b) t = absurd t
le_z_to (negsuc a) (pos b) t = omega arith
le_z_to (negsuc a) (negsuc b) t = let h = leb→le b a t in omega arith

to_le_z : (a b : ℤ) → pos_part a + neg_part b ≤ pos_part b + neg_part a → T (le_z a b)
unfolding pos_part neg_part
to_le_z (pos a) (pos b) h = le→leb a b (omega arith)
to_le_z (pos a) (negsuc b) h = let k : ⊥ = omega arith in absurd k
to_le_z (negsuc a) (pos b) h = tt
to_le_z (negsuc a) (negsuc b) h = le→leb b a (omega arith)

lt_z_to : (a b : ℤ) → T (lt_z a b) → pos_part a + neg_part b < pos_part b + neg_part a
unfolding pos_part neg_part
lt_z_to (pos a) (pos b) t = let h = ltb→lt a b t in omega arith
lt_z_to (pos a) (negsuc b) t = absurd t
lt_z_to (negsuc a) (pos b) t = omega arith
lt_z_to (negsuc a) (negsuc b) t = let h = ltb→lt b a t in omega arith

to_lt_z : (a b : ℤ) → pos_part a + neg_part b < pos_part b + neg_part a → T (lt_z a b)
unfolding pos_part neg_part
to_lt_z (pos a) (pos b) h = lt→ltb a b (omega arith)
to_lt_z (pos a) (negsuc b) h = let k : ⊥ = omega arith in absurd k
to_lt_z (negsuc a) (pos b) h = tt
to_lt_z (negsuc a) (negsuc b) h = lt→ltb b a (omega arith)

pub ≤_parts : {a b : ℤ} → a ≤ℤ b → pos_part a + neg_part b ≤ pos_part b + neg_part a
≤_parts {a} {b} h = le_z_to a b h.le

pub parts_≤ : {a b : ℤ} → pos_part a + neg_part b ≤ pos_part b + neg_part a → a ≤ℤ b
parts_≤ {a} {b} h = record { le = to_le_z a b h }

pub <_parts : {a b : ℤ} → a <ℤ b → pos_part a + neg_part b < pos_part b + neg_part a
<_parts {a} {b} h = lt_z_to a b h.lt

pub parts_< : {a b : ℤ} → pos_part a + neg_part b < pos_part b + neg_part a → a <ℤ b
parts_< {a} {b} h = record { lt = to_lt_z a b h }

pub parts_≡ : (a b : ℤ) → pos_part a + neg_part b ≡ pos_part b + neg_part a → a ≡ b
unfolding pos_part neg_part
parts_≡ (pos a) (pos b) h = ap pos (omega arith)
parts_≡ (pos a) (negsuc b) h = let k : ⊥ = omega arith in absurd k
parts_≡ (negsuc a) (pos b) h = let k : ⊥ = omega arith in absurd k
parts_≡ (negsuc a) (negsuc b) h = ap negsuc (omega arith)

pub ≡_parts : {a b : ℤ} → a ≡ b → pos_part a + neg_part b ≡ pos_part b + neg_part a
≡_parts {a} {b} e = subst (λ (x : ℤ). pos_part a + neg_part x ≡ pos_part x + neg_part a) e refl

-- ---- what the flag of a signed test says, both ways: for the branches of code and the `cond` of definitions
is_true : (t : Bool) → T t → t ≡ true
is_true true h = refl
is_true false h = absurd h

is_false : (t : Bool) → (T t → ⊥) → t ≡ false
is_false true h = absurd (h tt)
is_false false h = refl

pub lt_yes : (a b : ℤ) → lt_z a b ≡ true → a <ℤ b
lt_yes a b e = record { lt = subst T (sym e) tt }

pub lt_no : (a b : ℤ) → lt_z a b ≡ false → b ≤ℤ a
lt_no a b e = lt_z_no {a = a} {b = b} (subst (λ (t : Bool). T (not t)) (sym e) tt)

pub le_yes : (a b : ℤ) → le_z a b ≡ true → a ≤ℤ b
le_yes a b e = record { le = subst T (sym e) tt }

pub yes_lt : {a b : ℤ} → a <ℤ b → lt_z a b ≡ true
yes_lt {a} {b} h = is_true (lt_z a b) h.lt

pub no_lt : {a b : ℤ} → b ≤ℤ a → lt_z a b ≡ false
no_lt {a} {b} h = is_false (lt_z a b) (λ t. clash_ℤ (lt_z_yes {a = a} {b = b} t) h)

pub yes_le : {a b : ℤ} → a ≤ℤ b → le_z a b ≡ true
yes_le {a} {b} h = is_true (le_z a b) h.le

pub no_le : {a b : ℤ} → b <ℤ a → le_z a b ≡ false
no_le {a} {b} h = is_false (le_z a b) (λ t. clash_ℤ h (le_z_yes {a = a} {b = b} t))

pub le_no : (a b : ℤ) → le_z a b ≡ false → b <ℤ a
le_no a b e = parts_< (go (dec_lt (pos_part b + neg_part a) (pos_part a + neg_part b)))
  where
    go : Dec (pos_part b + neg_part a < pos_part a + neg_part b) → pos_part b + neg_part a < pos_part a + neg_part b
    go (yes h) = h
    go (no h) = absurd (subst T (sym (yes_le (parts_≤ {a = a} {b = b} (omega arith))) ∙ e) tt)

-- the same as statements on naturals, in the form that `omega` takes as a rule
pub lt_yes_parts : (a b : ℤ) → lt_z a b ≡ true → pos_part a + neg_part b < pos_part b + neg_part a
lt_yes_parts a b e = <_parts (lt_yes a b e)

pub lt_no_parts : (a b : ℤ) → lt_z a b ≡ false → pos_part b + neg_part a ≤ pos_part a + neg_part b
lt_no_parts a b e = ≤_parts (lt_no a b e)

pub le_yes_parts : (a b : ℤ) → le_z a b ≡ true → pos_part a + neg_part b ≤ pos_part b + neg_part a
le_yes_parts a b e = ≤_parts (le_yes a b e)

pub le_no_parts : (a b : ℤ) → le_z a b ≡ false → pos_part b + neg_part a < pos_part a + neg_part b
le_no_parts a b e = <_parts (le_no a b e)

-- ---- ranges of two's complement, both ways

-- z is at least -n and below n: the bound that goes through sums and products (Bound.antt)
pub record Mag (z : ℤ) (n : ℕ) : Type 0 where
  pub below : mag z < n

mag_parts : (z : ℤ) → mag z ≡ pos_part z + (neg_part z - 1)
unfolding pos_part neg_part
mag_parts (pos n) = omega arith
mag_parts (negsuc n) = omega arith

pub Mag_parts : {z : ℤ} {n : ℕ} → Mag z n → pos_part z + (neg_part z - 1) < n
Mag_parts {z} h = rw (← mag_parts z) h.below

-- as one statement, which `omega` can take as a rule: of the two differences one is 0
pub parts_Mag : (z : ℤ) (n : ℕ) → (pos_part z - neg_part z) + ((neg_part z - pos_part z) - 1) < n → Mag z n
unfolding pos_part neg_part
parts_Mag (pos a) n h = record { below = omega arith }
parts_Mag (negsuc a) n h = record { below = omega arith }

pub SFits_parts : {w : Width} {z : ℤ} → SFits w z → pos_part z + (neg_part z - 1) < 2 ^ hbits w
SFits_parts {w} {z} h = rw (← mag_parts z) h.sfits

pub parts_SFits : (w : Width) (z : ℤ) → (pos_part z - neg_part z) + ((neg_part z - pos_part z) - 1) < 2 ^ hbits w → SFits w z
unfolding pos_part neg_part
parts_SFits w (pos n) h = record { sfits = omega arith }
parts_SFits w (negsuc n) h = record { sfits = omega arith }

-- a number that is not negative: what a cast to an unsigned type asks
pub parts_non_neg : (z : ℤ) → neg_part z ≤ 0 → T (non_neg z)
unfolding neg_part
parts_non_neg (pos n) h = tt
parts_non_neg (negsuc n) h = let k : ⊥ = omega arith in absurd k

-- what `omega` reads and proves of integers
pub ruleset zarith = (arith, ≤_parts, parts_≤, <_parts, parts_<, ≡_parts, parts_≡, lt_yes_parts, lt_no_parts, le_yes_parts, le_no_parts, SFits_parts, parts_SFits, Mag_parts, parts_Mag)

-- ---- the order's own laws, where naming them is shorter than `omega`
pub +ℤ_mono : {a b c d : ℤ} → a ≤ℤ b → c ≤ℤ d → (a +ℤ c) ≤ℤ (b +ℤ d)
+ℤ_mono {a} {b} {c} {d} h k = omega (zarith, parts_add a c, parts_add b d)

pub ≤ℤ_trans : {a b c : ℤ} → a ≤ℤ b → b ≤ℤ c → a ≤ℤ c
≤ℤ_trans h k = omega zarith

pub ≤ℤ_antisym : {a b : ℤ} → a ≤ℤ b → b ≤ℤ a → a ≡ b
≤ℤ_antisym {a} {b} h k = omega zarith

-- a difference is not negative where the order says so
pub sub_nonneg : {a b : ℤ} → a ≤ℤ b → pos 0 ≤ℤ (b -ℤ a)
unfolding pos_part neg_part
sub_nonneg {a} {b} h = omega (zarith, parts_sub b a)

-- a natural is not negative
pub pos_nonneg : (n : ℕ) → pos 0 ≤ℤ pos n
unfolding pos_part neg_part
pos_nonneg n = omega zarith

-- the absolute value is at most n exactly when z lies in -n..n
pub nat_abs_within : (n : ℕ) (z : ℤ) → neg_ℤ (pos n) ≤ℤ z → z ≤ℤ pos n → nat_abs z ≤ n
unfolding pos_part neg_part
nat_abs_within n z l h = omega (zarith, nat_abs_gap z, pos_part_neg (pos n), neg_part_neg (pos n))

pub nat_abs_above : (z : ℤ) {n : ℕ} → nat_abs z ≤ n → neg_ℤ (pos n) ≤ℤ z
unfolding pos_part neg_part
nat_abs_above z {n} h = omega (zarith, nat_abs_gap z, pos_part_neg (pos n), neg_part_neg (pos n))

pub nat_abs_below : (z : ℤ) {n : ℕ} → nat_abs z ≤ n → z ≤ℤ pos n
unfolding pos_part neg_part
nat_abs_below z h = omega (zarith, nat_abs_gap z)

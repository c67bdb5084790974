-- Rows are causes, and causes whose bits are 12..30 are rows.
use mathlib.Core.Bool.{Bool, true, false, cond}
use mathlib.Core.List.{List, [], ◌∷◌, ◌++◌}
use mathlib.Core.Path.{◌≡◌, refl, subst}
use Prim.Native.Nat.{ℕ, zero, suc, ◌+◌, ◌<◌, ◌≤◌}
use native.Mathlib.Omega.{arith}
use borrow.Author.Tests.{eq-eqb, eqb-true, eqb-false}
use lib.Dec.{eqb}
use Rattle.gte_arithmetic.specs.Checks.{Check, fails}
use Rattle.gte_rows.specs.Rows.{Row, row_of, caused, causes, part_rows, rows_down}
use Rattle.cause_laws.proofs.Tests.{and_2}
use Rattle.cause_laws.specs.Rows.{In, here, later, All, none, more, PartFrom, first, next}

-- ---- what holds of every member
pub all_++ : {A : Type 0} {P : A → Type 0} {xs ys : List A} → All P xs → All P ys → All P (xs ++ ys)
all_++ none k = k
all_++ (more p h) k = more p (all_++ h k)

pub all_in : {A : Type 0} {P : A → Type 0} {xs : List A} {a : A} → All P xs → In a xs → P a
all_in {A = A} {P = P} {a = a} none h = elim h [ ]
all_in (more p h) here = p
all_in (more p h) (later i) = all_in h i

-- ---- each row is a cause
pub one : (t : Bool) (P : Row → Type 0) (r : Row) (rest : List Row) → (t ≡ true → P r) → All P rest → All P (cond t (r ∷ rest) rest)
one true P r rest h k = more (h refl) k
one false P r rest h k = k

causes_all : (P : Row → Type 0) (b p : ℕ) (cs : List Check)
    → ((c : Check) → In c cs → fails c.test ≡ true → P (row_of p c))
    → All P (causes b p cs)
unfolding causes
causes_all P b p [] h = none
causes_all P b p (c ∷ cs) h =
    one (caused b c) P (row_of p c) (causes b p cs) (λ e. h c here (and_2 (eqb c.bit b) (fails c.test) e)) (causes_all P b p cs (λ d i e. h d (later i) e))

parts_all : (P : Row → Type 0) (b n : ℕ) (parts : List (List Check))
    → ((p : ℕ) (cs : List Check) (c : Check) → PartFrom cs n p parts → In c cs → fails c.test ≡ true → P (row_of p c))
    → All P (part_rows b n parts)
unfolding part_rows
parts_all P b n [] h = none
parts_all P b n (cs ∷ parts) h =
    all_++ (causes_all P b n cs (λ c i e. h n cs c first i e)) (parts_all P b (suc n) parts (λ p ds c q i e. h p ds c (next q) i e))

pub rows_all : (P : Row → Type 0) (k : ℕ) (parts : List (List Check))
    → ((p : ℕ) (cs : List Check) (c : Check) → PartFrom cs 1 p parts → In c cs → fails c.test ≡ true → P (row_of p c))
    → All P (rows_down k parts)
unfolding rows_down
rows_all P zero parts h = none
rows_all P (suc k) parts h = all_++ (parts_all P (12 + k) 1 parts h) (rows_all P k parts h)

-- ---- each cause is a row
in_left : {A : Type 0} {a : A} {xs : List A} (ys : List A) → In a xs → In a (xs ++ ys)
in_left ys here = here
in_left ys (later i) = later (in_left ys i)

in_right : {A : Type 0} {a : A} {ys : List A} (xs : List A) → In a ys → In a (xs ++ ys)
in_right [] i = i
in_right (x ∷ xs) i = later (in_right xs i)

kept : (t : Bool) (r : Row) (x : Row) (rest : List Row) → In x rest → In x (cond t (r ∷ rest) rest)
kept true r x rest i = later i
kept false r x rest i = i

causes_has : {c : Check} {cs : List Check} (b p : ℕ) → In c cs → caused b c ≡ true → In (row_of p c) (causes b p cs)
unfolding causes
causes_has b p here e = rw e here
causes_has {c} b p (later {x} {xs} i) e = kept (caused b x) (row_of p x) (row_of p c) (causes b p xs) (causes_has b p i e)

parts_has : {c : Check} {cs : List Check} {n p : ℕ} {parts : List (List Check)} (b : ℕ) → PartFrom cs n p parts → In c cs → caused b c ≡ true → In (row_of p c) (part_rows b n parts)
unfolding part_rows
parts_has b (first {p} {parts}) i e = in_left (part_rows b (suc p) parts) (causes_has b p i e)
parts_has b (next {n} {p} {ds} {parts} q) i e = in_right (causes b n ds) (parts_has b q i e)

down_has : {r : Row} (k b : ℕ) (parts : List (List Check)) → 12 ≤ b → b < 12 + k → In r (part_rows b 1 parts) → In r (rows_down k parts)
unfolding rows_down
down_has zero b parts l h i = absurd (omega arith)
down_has {r} (suc k) b parts l h i = choose (eqb b (12 + k)) k b parts refl i (λ n. down_has k b parts l (omega arith) i)
  where
    choose : (t : Bool) (k b : ℕ) (parts : List (List Check)) → eqb b (12 + k) ≡ t → In r (part_rows b 1 parts) → ((b ≡ 12 + k → ⊥) → In r (rows_down k parts)) → In r (part_rows (12 + k) 1 parts ++ rows_down k parts)
    choose true k b parts e i f = in_left (rows_down k parts) (subst (λ (x : ℕ). In r (part_rows x 1 parts)) (eqb-true b (12 + k) e) i)
    choose false k b parts e i f = in_right (part_rows (12 + k) 1 parts) (f (eqb-false b (12 + k) e))

pub cause_has : {c : Check} {cs : List Check} {p : ℕ} {parts : List (List Check)} → PartFrom cs 1 p parts → In c cs → fails c.test ≡ true → 12 ≤ c.bit → c.bit ≤ 30 → In (row_of p c) (rows_down 19 parts)
cause_has {c} {cs} {p} {parts} q i f l u =
    let e : caused c.bit c ≡ true = rw (eq-eqb c.bit c.bit refl, f) refl in
    down_has 19 c.bit parts l (omega arith) (parts_has c.bit q i e)

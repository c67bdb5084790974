-- Rows are in order: within a part the checks of one bit stand on ascending lines.
use mathlib.Core.Bool.{Bool, true, false, cond}
use mathlib.Core.List.{List, [], ◌∷◌, ◌++◌}
use mathlib.Core.Path.{◌≡◌, refl, sym, ◌∙◌}
use Prim.Native.Nat.{ℕ, zero, suc, ◌+◌, ◌<◌, ◌≤◌}
use native.Mathlib.Omega.{arith}
use borrow.Author.Tests.{leb-true, eqb-true, eq-eqb}
use lib.Dec.{eqb}
use Rattle.gte_arithmetic.specs.Checks.{Check, fails}
use Rattle.gte_rows.specs.Rows.{Row, row_of, caused, causes, part_rows, rows_down}
use Rattle.cause_laws.specs.Rows.{All, none, more, Before, higher, earlier, ahead, Sorted, empty, row}
use Rattle.cause_laws.proofs.Members.{all_++, one}
use Rattle.cause_laws.proofs.Tests.{and_1, and_2, apart, follows, ordered, all_ordered}

-- ---- two sorted lists in a row
sorted_++ : {xs ys : List Row} → Sorted xs → Sorted ys → All (λ (x : Row). All (Before x) ys) xs → Sorted (xs ++ ys)
sorted_++ empty k n = k
sorted_++ (row a h) k (more b n) = row (all_++ a b) (sorted_++ h k n)

each : {P Q : Row → Type 0} {xs : List Row} → ((x : Row) → P x → Q x) → All P xs → All Q xs
each f none = none
each f (more p h) = more (f _ p) (each f h)

-- ---- the rows of one bit and one part
record Of (b p : ℕ) (r : Row) : Type 0 where
  bit : r.bit ≡ b
  part : r.part ≡ p

of_bit : (b : ℕ) (c : Check) → caused b c ≡ true → c.bit ≡ b
of_bit b c e = eqb-true c.bit b (and_1 (eqb c.bit b) (fails c.test) e)

causes_of_lem : (b p : ℕ) (cs : List Check) → All (Of b p) (causes b p cs)
unfolding causes
causes_of_lem b p [] = none
causes_of_lem b p (c ∷ cs) = one (caused b c) (Of b p) (row_of p c) (causes b p cs) (λ e. record { bit = of_bit b c e; part = refl }) (causes_of_lem b p cs)

-- the line of a check is below those of later checks of its bit
lines : (c d : Check) (b : ℕ) → apart c d ≡ true → c.bit ≡ b → d.bit ≡ b → c.line < d.line
lines c d b e f g = leb-true (suc c.line) d.line (rw (eq-eqb c.bit d.bit (f ∙ sym g)) at e)

after_all : (b p : ℕ) (c : Check) (cs : List Check) → c.bit ≡ b → follows c cs ≡ true → All (Before (row_of p c)) (causes b p cs)
unfolding causes
after_all b p c [] f e = none
after_all b p c (d ∷ cs) f e =
    one (caused b d) (Before (row_of p c)) (row_of p d) (causes b p cs)
    (λ k. ahead (f ∙ sym (of_bit b d k)) refl (lines c d b (and_1 (apart c d) (follows c cs) e) f (of_bit b d k)))
    (after_all b p c cs f (and_2 (apart c d) (follows c cs) e))

put : (t : Bool) (r : Row) (rest : List Row) → (t ≡ true → All (Before r) rest) → Sorted rest → Sorted (cond t (r ∷ rest) rest)
put true r rest h k = row (h refl) k
put false r rest h k = k

causes_sorted : (b p : ℕ) (cs : List Check) → ordered cs ≡ true → Sorted (causes b p cs)
unfolding causes
causes_sorted b p [] e = empty
causes_sorted b p (c ∷ cs) e =
    put (caused b c) (row_of p c) (causes b p cs)
    (λ k. after_all b p c cs (of_bit b c k) (and_1 (follows c cs) (ordered cs) e))
    (causes_sorted b p cs (and_2 (follows c cs) (ordered cs) e))

-- ---- the rows of one bit
record From (b n : ℕ) (r : Row) : Type 0 where
  bit : r.bit ≡ b
  part : n ≤ r.part

parts_from : (b n m : ℕ) (parts : List (List Check)) → n ≤ m → All (From b n) (part_rows b m parts)
unfolding part_rows
parts_from b n m [] h = none
parts_from b n m (cs ∷ parts) h =
    all_++ (each (λ x k. record { bit = k.bit; part = at_least x.part k.part }) (causes_of_lem b m cs)) (parts_from b n (suc m) parts (omega arith))
  where
    at_least : (p : ℕ) → p ≡ m → n ≤ p
    at_least p e = omega arith

by_part : (b n : ℕ) (x y : Row) → Of b n x → From b (suc n) y → Before x y
by_part b n x y h k = earlier (h.bit ∙ sym k.bit) (less x.part y.part h.part k.part)
  where
    less : (p q : ℕ) → p ≡ n → suc n ≤ q → p < q
    less p q e l = omega arith

parts_sorted : (b n : ℕ) (parts : List (List Check)) → all_ordered parts ≡ true → Sorted (part_rows b n parts)
unfolding part_rows
parts_sorted b n [] e = empty
parts_sorted b n (cs ∷ parts) e =
    sorted_++ (causes_sorted b n cs (and_1 (ordered cs) (all_ordered parts) e)) (parts_sorted b (suc n) parts (and_2 (ordered cs) (all_ordered parts) e))
    (each (λ x h. each (λ y k. by_part b n x y h k) (parts_from b (suc n) (suc n) parts (omega arith))) (causes_of_lem b n cs))

-- ---- all rows
record Below (n : ℕ) (r : Row) : Type 0 where
  bit : r.bit < n

down_below : (k n : ℕ) (parts : List (List Check)) → 12 + k ≤ n → All (Below n) (rows_down k parts)
unfolding rows_down
down_below zero n parts h = none
down_below (suc k) n parts h =
    all_++ (each (λ x f. record { bit = less x.bit f.bit }) (parts_from (12 + k) 0 1 parts (omega arith))) (down_below k n parts (omega arith))
  where
    less : (b : ℕ) → b ≡ 12 + k → b < n
    less b e = omega arith

by_bit : (b : ℕ) (x y : Row) → From b 0 x → Below b y → Before x y
by_bit b x y h k = higher (less x.bit y.bit h.bit k.bit)
  where
    less : (p q : ℕ) → p ≡ b → q < b → q < p
    less p q e l = omega arith

pub rows_sorted : (k : ℕ) (parts : List (List Check)) → all_ordered parts ≡ true → Sorted (rows_down k parts)
unfolding rows_down
rows_sorted zero parts e = empty
rows_sorted (suc k) parts e =
    sorted_++ (parts_sorted (12 + k) 1 parts e) (rows_sorted k parts e)
    (each (λ x h. each (λ y f. by_bit (12 + k) x y h f) (down_below k (12 + k) parts (omega arith))) (parts_from (12 + k) 0 1 parts (omega arith)))

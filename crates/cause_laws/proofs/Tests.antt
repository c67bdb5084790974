-- Tests of lists of checks that compute.
use mathlib.Core.Bool.{Bool, true, cond, ◌&&◌, and-eq-true_iff}
use mathlib.Core.List.{List, [], ◌∷◌}
use mathlib.Core.Path.{◌≡◌}
use Prim.Native.Nat.{ℕ, suc, ◌+◌, ◌≤◌}
use borrow.Author.Tests.{leb-true}
use lib.Dec.{leb, eqb}
use lib.ListN.{length}
use Rattle.gte_arithmetic.specs.Checks.{Check}

-- every bit is one of 12..30
abbrev pub ranged : List Check → Bool
ranged [] = true
ranged (c ∷ cs) = (leb 12 c.bit && leb c.bit 30) && ranged cs

abbrev pub all_ranged : List (List Check) → Bool
all_ranged [] = true
all_ranged (cs ∷ parts) = ranged cs && all_ranged parts

-- of two checks of one bit the first stands on an earlier line
abbrev pub apart : Check → Check → Bool
apart c d = cond (eqb c.bit d.bit) (leb (suc c.line) d.line) true

abbrev pub follows : Check → List Check → Bool
follows c [] = true
follows c (d ∷ ds) = apart c d && follows c ds

abbrev pub ordered : List Check → Bool
ordered [] = true
ordered (c ∷ cs) = follows c cs && ordered cs

abbrev pub all_ordered : List (List Check) → Bool
all_ordered [] = true
all_ordered (cs ∷ parts) = ordered cs && all_ordered parts

-- how many there are
abbrev pub size : List (List Check) → ℕ
size [] = 0
size (cs ∷ parts) = length cs + size parts

-- all three, of every part; no command makes more than 117 checks
abbrev pub fine : List (List Check) → Bool
fine parts = all_ranged parts && (all_ordered parts && leb (size parts) 117)

pub and_1 : (s t : Bool) → (s && t) ≡ true → s ≡ true
and_1 s t e = ((and-eq-true_iff s t).0 e).0

pub and_2 : (s t : Bool) → (s && t) ≡ true → t ≡ true
and_2 s t e = ((and-eq-true_iff s t).0 e).1

pub ranged_fine : (parts : List (List Check)) → fine parts ≡ true → all_ranged parts ≡ true
ranged_fine parts e = and_1 (all_ranged parts) (all_ordered parts && leb (size parts) 117) e

pub ordered_fine : (parts : List (List Check)) → fine parts ≡ true → all_ordered parts ≡ true
ordered_fine parts e = and_1 (all_ordered parts) (leb (size parts) 117) (and_2 (all_ranged parts) (all_ordered parts && leb (size parts) 117) e)

pub small_fine : (parts : List (List Check)) → fine parts ≡ true → size parts ≤ 117
small_fine parts e = leb-true (size parts) 117 (and_2 (all_ordered parts) (leb (size parts) 117) (and_2 (all_ranged parts) (all_ordered parts && leb (size parts) 117) e))

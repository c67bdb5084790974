-- A command has at most as many rows as checks, since a check has one bit and is listed once.
use mathlib.Core.Bool.{Bool, true, false, cond}
use mathlib.Core.List.{List, [], ◌∷◌}
use mathlib.Core.Path.{◌≡◌, refl, sym, ap, ◌∙◌}
use Prim.Native.Nat.{ℕ, zero, suc, ◌+◌, ◌*◌, ◌≤◌}
use native.Mathlib.Omega.{arith}
use borrow.Author.Tests.{ne_eqb, eqb-true}
use lib.Dec.{eqb}
use lib.ListN.{length, length-append}
use Rattle.gte_arithmetic.specs.Checks.{Check}
use Rattle.gte_inputs.specs.Inputs.{inputs_of}
use Rattle.gte.specs.Commands.{parts_of, command_in, sf_of, lm_of}
use Rattle.gte_rows.specs.Rows.{Row, row_of, caused, causes, part_rows, rows_down, words_of}
use Rattle.gte_causes.specs.Causes.{rows_at}
use Rattle.cause_laws.proofs.Tests.{size, small_fine}
use Rattle.cause_laws.proofs.Bits.{all_fine}

-- ---- how many rows of k bits a part has, and all parts
abbrev count : ℕ → ℕ → List Check → ℕ
count zero p cs = 0
count (suc k) p cs = length (causes (12 + k) p cs) + count k p cs

abbrev counts : ℕ → ℕ → List (List Check) → ℕ
counts k p [] = 0
counts k p (cs ∷ parts) = count k p cs + counts k (suc p) parts

no_bits : (p : ℕ) (parts : List (List Check)) → counts 0 p parts ≡ 0
no_bits p [] = refl
no_bits p (cs ∷ parts) = let h = no_bits (suc p) parts in omega arith

one_bit : (k p : ℕ) (parts : List (List Check)) → length (part_rows (12 + k) p parts) + counts k p parts ≡ counts (suc k) p parts
unfolding part_rows
one_bit k p [] = refl
one_bit k p (cs ∷ parts) =
    let e = length-append (causes (12 + k) p cs) (part_rows (12 + k) (suc p) parts) in
    let h = one_bit k (suc p) parts in
    omega arith

rows_count : (k : ℕ) (parts : List (List Check)) → length (rows_down k parts) ≡ counts k 1 parts
unfolding rows_down
rows_count zero parts = sym (no_bits 1 parts)
rows_count (suc k) parts =
    length-append (part_rows (12 + k) 1 parts) (rows_down k parts) ∙ ap (λ (n : ℕ). length (part_rows (12 + k) 1 parts) + n) (rows_count k parts) ∙ one_bit k 1 parts

-- ---- one check more is one row more at most
shorter : (t : Bool) (r : Row) (rs : List Row) → length (cond t (r ∷ rs) rs) ≤ suc (length rs)
shorter true r rs = omega arith
shorter false r rs = omega arith

one_more : (b p : ℕ) (c : Check) (cs : List Check) → length (causes b p (c ∷ cs)) ≤ suc (length (causes b p cs))
unfolding causes
one_more b p c cs = shorter (caused b c) (row_of p c) (causes b p cs)

other_bit : (b p : ℕ) (c : Check) (cs : List Check) → eqb c.bit b ≡ false → causes b p (c ∷ cs) ≡ causes b p cs
unfolding causes
other_bit b p c cs e = rw e

-- bits below that of the check
bits_below : (k p : ℕ) (c : Check) (cs : List Check) → 12 + k ≤ c.bit → count k p (c ∷ cs) ≡ count k p cs
bits_below zero p c cs h = refl
bits_below (suc k) p c cs h =
    let e = ap (λ (rs : List Row). length rs) (other_bit (12 + k) p c cs (ne_eqb c.bit (12 + k) (λ q. omega arith))) in
    let i = bits_below k p c cs (omega arith) in
    omega arith

step : (t : Bool) (k p : ℕ) (c : Check) (cs : List Check)
    → eqb c.bit (12 + k) ≡ t
    → count k p (c ∷ cs) ≤ suc (count k p cs)
    → count (suc k) p (c ∷ cs) ≤ suc (count (suc k) p cs)
step true k p c cs e h =
    let b = eqb-true c.bit (12 + k) e in
    let i = bits_below k p c cs (omega arith) in
    let m = one_more (12 + k) p c cs in
    omega arith
step false k p c cs e h =
    let i = ap (λ (rs : List Row). length rs) (other_bit (12 + k) p c cs e) in
    omega arith

grows : (k p : ℕ) (c : Check) (cs : List Check) → count k p (c ∷ cs) ≤ suc (count k p cs)
grows zero p c cs = omega arith
grows (suc k) p c cs = step (eqb c.bit (12 + k)) k p c cs refl (grows k p c cs)

none : (k p : ℕ) → count k p [] ≡ 0
unfolding causes
none zero p = refl
none (suc k) p = let h = none k p in omega arith

part_most : (k p : ℕ) (cs : List Check) → count k p cs ≤ length cs
part_most k p [] = let e = none k p in omega arith
part_most k p (c ∷ cs) =
    let i = part_most k p cs in
    let g = grows k p c cs in
    omega arith

-- ---- of all parts
parts_most : (k p : ℕ) (parts : List (List Check)) → counts k p parts ≤ size parts
parts_most k p [] = omega arith
parts_most k p (cs ∷ parts) =
    let h = part_most k p cs in
    let i = parts_most k (suc p) parts in
    omega arith

-- five words for each row
pub five : (rows : List Row) → length (words_of rows) ≡ 5 * length rows
unfolding words_of
five [] = refl
five (r ∷ rows) = let h = five rows in omega arith

pub most : (word : ℕ) (w : List ℕ) → length (words_of (rows_at word w)) ≤ 585
most word w =
    let parts = parts_of (command_in word) (sf_of word) (lm_of word) word (inputs_of w) in
    let a = five (rows_down 19 parts) in
    let b = rows_count 19 parts in
    let d = parts_most 19 1 parts in
    let e = small_fine parts (all_fine (command_in word) (sf_of word) (lm_of word) word (inputs_of w)) in
    omega arith

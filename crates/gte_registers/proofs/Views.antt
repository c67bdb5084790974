-- What reads return is well formed: read again, it is the same.
use mathlib.Core.Path.{◌≡◌, sym, ap, ◌∙◌}
use mathlib.Core.List.{List, [], ◌∷◌}
use Prim.Native.Nat.{ℕ, zero, suc, ◌+◌, ◌%◌}
use native.Mathlib.Omega.{arith}
use lib.Dec.{lit<}
use lib.ListN.{length, drop, drop_of_length-le}
use lib.Seq.{drop-cons}
use mir.Syntax.{w16, w32}
use mir.Val.{Fits, SFits, to_z}
use mir.Facts.{sfits_to_z, sfits_widen, of_z-to_z}
use Rattle.integers.specs.Floor.{mod_mod}
use Rattle.integers.specs.Bits.{of_z_mod}
use Rattle.gte_arithmetic.proofs.Flags.{flag_word_twice}
use Rattle.gte_registers.specs.Registers.{reg, kinds, read_of, reads, short, half, field, fields_of}

-- ---- the two extensions see only the low half, and keep it
pub short_low : (x : ℕ) → short x % 65536 ≡ x % 65536
unfolding short
short_low x =
    let f : Fits w16 (x % 65536) = record { fits = omega arith } in
    let z = to_z w16 (x % 65536) in
    let g : SFits w16 z = sfits_to_z f in
    ap (λ (n : ℕ). n % 65536) (of_z_mod w32 z (sfits_widen tt g)) ∙ mod_mod z 65536 65536 (lit< tt) (lit< tt) ∙ sym (of_z_mod w16 z g) ∙ of_z-to_z f

same_low : (x y : ℕ) → y % 65536 ≡ x % 65536 → short y ≡ short x
unfolding short
same_low x y e = rw e

pub short_short : (x : ℕ) → short (short x) ≡ short x
short_short x = same_low x (short x) (short_low x)

pub half_low : (x : ℕ) → half x % 65536 ≡ x % 65536
unfolding half
half_low x = omega arith

pub half_half : (x : ℕ) → half (half x) ≡ half x
unfolding half
half_half x = omega arith

pub field_short : (x : ℕ) → field (short x) ≡ field x
unfolding field
field_short x = rw (short_low x)

pub fields_short : (a b c : ℕ) → fields_of (short a) (short b) (short c) ≡ fields_of a b c
unfolding fields_of
fields_short a b c = rw (field_short a, field_short b, field_short c)

-- what reads return is well formed: read again, it is the same
pub reads_reads : (s : List ℕ) → reads (reads s) ≡ reads s
unfolding reads read_of kinds
reads_reads s = simp (short_short, half_half, fields_short, flag_word_twice)

-- ---- a list of 64 is the list of its elements
abbrev pub from : ℕ → ℕ → List ℕ → List ℕ
from zero k w = []
from (suc n) k w = reg w k ∷ from n (suc k) w

tail_is : (n k : ℕ) (w : List ℕ) → length w ≡ k + n → drop k w ≡ from n k w
tail_is zero k w h = drop_of_length-le w {i = k} (omega arith)
tail_is (suc n) k w h = drop-cons w k 0 (omega arith) ∙ ap (λ (t : List ℕ). reg w k ∷ t) (tail_is n (suc k) w (omega arith))

pub spelt : (w : List ℕ) → length w ≡ 64 → w ≡ from 64 0 w
spelt w h = tail_is 64 0 w h

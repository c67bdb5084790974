-- A write to the storage is seen as a write to the words that reads return.
use mathlib.Core.Path.{◌≡◌, refl, sym, ap, ap₂, ◌∙◌}
use mathlib.Core.Bool.{Bool, true, false, cond}
use mathlib.Core.Logic.{◌⊎◌, inl, inr}
use mathlib.Core.List.{List, [], ◌∷◌}
use Prim.Native.Nat.{ℕ, zero, suc, ◌+◌, ◌%◌, ◌<◌}
use native.Mathlib.Omega.{arith}
use lib.Dec.{eqb, eqb-zero-suc, eqb-suc-zero, eqb-suc-suc}
use lib.ListN.{set, length, length-set}
use borrow.Author.Tests.{ne_eqb}
use Rattle.gte_arithmetic.specs.Checks.{flag_word}
use Rattle.gte_arithmetic.proofs.Flags.{flag_word_twice}
use Rattle.gte_registers.specs.Registers.{reg, kinds, short, half, field, fields_of, read_of, reads, view, pushed_xy, spread_fields, written, write_of}
use Rattle.gte_registers.proofs.Views.{short_short, half_half, field_short, reads_reads, from, spelt}

-- ---- a write at any place, as the list of its elements
abbrev placed : ℕ → ℕ → ℕ → ℕ → List ℕ → List ℕ
placed zero k i x s = []
placed (suc n) k i x s = cond (eqb i k) x (reg s k) ∷ placed n (suc k) i x s

at_set : (s : List ℕ) (i k x : ℕ) → k < length s → reg (set s i x) k ≡ cond (eqb i k) x (reg s k)
at_set [] i k x h = let e : ⊥ = omega arith in absurd e
at_set (y ∷ s) zero zero x h = refl
at_set (y ∷ s) zero (suc k) x h = rw (eqb-zero-suc k)
at_set (y ∷ s) (suc i) zero x h = rw (eqb-suc-zero i)
at_set (y ∷ s) (suc i) (suc k) x h = rw (eqb-suc-suc i k) (at_set s i k x (omega arith))

from_set : (n k : ℕ) (s : List ℕ) (i x : ℕ) → length s ≡ k + n → from n k (set s i x) ≡ placed n k i x s
from_set zero k s i x h = refl
from_set (suc n) k s i x h = ap₂ (λ (y : ℕ) (t : List ℕ). y ∷ t) (at_set s i k x (omega arith)) (from_set n (suc k) s i x (omega arith))

set_placed : (s : List ℕ) (i x : ℕ) → length s ≡ 64 → set s i x ≡ placed 64 0 i x s
set_placed s i x h = spelt (set s i x) (length-set s i x ∙ h) ∙ from_set 64 0 s i x h

-- what reads return is the same, whether the elements that stay are those of the storage or of the words
short_cond : (b : Bool) (x y : ℕ) → short (cond b x (short y)) ≡ short (cond b x y)
short_cond true x y = refl
short_cond false x y = short_short y

half_cond : (b : Bool) (x y : ℕ) → half (cond b x (half y)) ≡ half (cond b x y)
half_cond true x y = refl
half_cond false x y = half_half y

field_cond : (b : Bool) (x y : ℕ) → field (cond b x (short y)) ≡ field (cond b x y)
field_cond true x y = refl
field_cond false x y = field_short y

flag_cond : (b : Bool) (x y : ℕ) → flag_word (cond b x (flag_word y)) ≡ flag_word (cond b x y)
flag_cond true x y = refl
flag_cond false x y = flag_word_twice y

placed_seen : (s : List ℕ) (i x : ℕ) → reads (placed 64 0 i x s) ≡ reads (placed 64 0 i x (reads s))
unfolding reads read_of kinds fields_of
placed_seen s i x = simp (short_cond, half_cond, field_cond, flag_cond)

length_reads : (s : List ℕ) → length (reads s) ≡ 64
unfolding reads
length_reads s = refl

set_seen : (s : List ℕ) (i x : ℕ) → length s ≡ 64 → reads (set s i x) ≡ reads (set (reads s) i x)
set_seen s i x h =
    ap reads (set_placed s i x h) ∙ placed_seen s i x ∙ ap reads (sym (set_placed (reads s) i x (length_reads s)))

-- ---- the registers that are not written as they stand
push_seen : (x : ℕ) (s : List ℕ) → reads (pushed_xy x (from 64 0 s)) ≡ reads (pushed_xy x (reads s))
unfolding reads read_of kinds fields_of pushed_xy
push_seen x s = simp (short_short, half_half, field_short, flag_word_twice)

spread_seen : (x : ℕ) (s : List ℕ) → reads (spread_fields x (from 64 0 s)) ≡ reads (spread_fields x (reads s))
unfolding reads read_of kinds spread_fields
spread_seen x s = simp (short_short, half_half, flag_word_twice)

-- ---- a write to any register
abbrev chosen : ℕ → ℕ → Bool → Bool → Bool → Bool → Bool → List ℕ → List ℕ
chosen i x a b c d e w = cond a w (cond b (pushed_xy x w) (cond c (spread_fields x w) (cond d w (cond e w (set w i x)))))

write_seen : (s : List ℕ) (i x : ℕ) → length s ≡ 64 → reads (written s i x) ≡ reads (written (reads s) i x)
unfolding written
write_seen s i x h = go (eqb i 7) (eqb i 15) (eqb i 28) (eqb i 29) (eqb i 31)
  where
    go : (a b c d e : Bool) → reads (chosen i x a b c d e s) ≡ reads (chosen i x a b c d e (reads s))
    go true b c d e = sym (reads_reads s)
    go false true c d e = ap (λ (w : List ℕ). reads (pushed_xy x w)) (spelt s h) ∙ push_seen x s
    go false false true d e = ap (λ (w : List ℕ). reads (spread_fields x w)) (spelt s h) ∙ spread_seen x s
    go false false false true e = sym (reads_reads s)
    go false false false false true = sym (reads_reads s)
    go false false false false false = set_seen s i x h

-- the storage after a write, for a register that the code names by a literal, and for any other
pub seen_key : (s t : List ℕ) (i k x : ℕ) → length s ≡ 64 → i % 64 ≡ k → t ≡ written s k x → view t ≡ write_of (view s) (i % 64) x
unfolding view write_of
seen_key s t i k x h e q = rw (e, q) (write_seen s k x h)

-- OTZ, ORGB and LZCR
pub seen_ignored : (s : List ℕ) (i x : ℕ) → length s ≡ 64 → (i % 64 ≡ 7) ⊎ ((i % 64 ≡ 29) ⊎ (i % 64 ≡ 31)) → view s ≡ write_of (view s) (i % 64) x
unfolding written
seen_ignored s i x h (inl e) = seen_key s s i 7 x h e refl
seen_ignored s i x h (inr (inl e)) = seen_key s s i 29 x h e refl
seen_ignored s i x h (inr (inr e)) = seen_key s s i 31 x h e refl

-- the number i is none of those
pub record Other (i : ℕ) : Type 0 where
  pub otz : i ≡ 7 → ⊥
  pub sxyp : i ≡ 15 → ⊥
  pub irgb : i ≡ 28 → ⊥
  pub orgb : i ≡ 29 → ⊥
  pub lzcr : i ≡ 31 → ⊥

other_written : (s : List ℕ) (i x : ℕ) → Other i → written s i x ≡ set s i x
unfolding written
other_written s i x n = rw (ne_eqb i 7 n.otz, ne_eqb i 15 n.sxyp, ne_eqb i 28 n.irgb, ne_eqb i 29 n.orgb, ne_eqb i 31 n.lzcr)

pub seen_rest : (s t : List ℕ) (i x : ℕ) → length s ≡ 64 → Other i → t ≡ set s i x → view t ≡ write_of (view s) i x
unfolding view write_of
seen_rest s t i x h n q = ap reads (q ∙ sym (other_written s i x n)) ∙ write_seen s i x h

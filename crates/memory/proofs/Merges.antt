-- Bytes of a word joined with a register's, by shifts and masks.
use Prim.Native.Nat.{ℕ, zero, suc, ◌+◌, ◌-◌, ◌*◌, ◌/◌, ◌%◌, ◌^◌, ◌<◌}
use mathlib.Core.Path.{◌≡◌, refl, sym, ap, ◌∙◌}
use native.Mathlib.Omega.{arith}
use lib.Bits.{bit_and, bit_or}
use Rattle.std.specs.Int.Bits.{and_zero_r}
use Rattle.std.proofs.Common.{add-zero, add_comm}
use Rattle.std.proofs.lemmas.Nat.{pow_pos, shr_split, and_mask, and_block, or_shifted, or_comm}
use Rattle.memory.specs.Loads.{left_of, right_of}

low : (x k : ℕ) → x % 2 ^ k < 2 ^ k
low x k = let p = pow_pos k in omega arith

-- the register's low k bits, below a word that is shifted by k
above : (w old k a m : ℕ) → w * 2 ^ k % 2 ^ 32 ≡ a * 2 ^ k → m ≡ 2 ^ k - 1 → bit_or (w * 2 ^ k % 2 ^ 32) (bit_and old m) ≡ w * 2 ^ k % 2 ^ 32 + old % 2 ^ k
above w old k a m e f = rw (e, f, and_mask old k) (or_shifted a k (old % 2 ^ k) (low old k))

pub left_is : (word old n : ℕ) → n < 4 → bit_or (word * 2 ^ (24 - 8 * n) % 2 ^ 32) (bit_and old (4294967295 - 4294967295 * 2 ^ (24 - 8 * n) % 2 ^ 32)) ≡ left_of word old n
unfolding left_of
left_is w old zero h = above w old 24 (w % 256) _ (omega arith) refl
left_is w old (suc zero) h = above w old 16 (w % 65536) _ (omega arith) refl
left_is w old (suc (suc zero)) h = above w old 8 (w % 16777216) _ (omega arith) refl
left_is w old (suc (suc (suc zero))) h = above w old 0 (w % 4294967296) _ (omega arith) refl
left_is w old (suc (suc (suc (suc n)))) h = absurd (omega arith)

-- the register's bits from k on, where it has s of them
masked : (old s k : ℕ) → old / 2 ^ k % 2 ^ s ≡ old / 2 ^ k → bit_and old ((2 ^ s - 1) * 2 ^ k + 0) ≡ old / 2 ^ k * 2 ^ k
masked old s k f =
    ap (λ (x : ℕ). bit_and x ((2 ^ s - 1) * 2 ^ k + 0)) (sym (shr_split old k))
    ∙ (and_block k (old / 2 ^ k) (2 ^ s - 1) (old % 2 ^ k) 0 (low old k) (pow_pos k) ∙ rw (and_mask (old / 2 ^ k) s, f, and_zero_r (old % 2 ^ k)) (add-zero (old / 2 ^ k * 2 ^ k)))

-- and below them a word that is shifted down by s
below : (w old s k m : ℕ) → m ≡ (2 ^ s - 1) * 2 ^ k + 0 → old / 2 ^ k % 2 ^ s ≡ old / 2 ^ k → w / 2 ^ s < 2 ^ k → bit_or (w / 2 ^ s) (bit_and old m) ≡ w / 2 ^ s + old / 2 ^ k * 2 ^ k
below w old s k m e f g =
    rw (e, masked old s k f) (or_comm (w / 2 ^ s) (old / 2 ^ k * 2 ^ k) ∙ (or_shifted (old / 2 ^ k) k (w / 2 ^ s) g ∙ add_comm (old / 2 ^ k * 2 ^ k) (w / 2 ^ s)))

pub right_is : (word old n : ℕ) → n < 4 → word < 4294967296 → old < 4294967296 → bit_or (word / 2 ^ (8 * n)) (bit_and old (4294967295 - 4294967295 / 2 ^ (8 * n))) ≡ right_of word old n
unfolding right_of
right_is w old zero h i j = below w old 0 32 _ refl (omega arith) (omega arith)
right_is w old (suc zero) h i j = below w old 8 24 _ refl (omega arith) (omega arith)
right_is w old (suc (suc zero)) h i j = below w old 16 16 _ refl (omega arith) (omega arith)
right_is w old (suc (suc (suc zero))) h i j = below w old 24 8 _ refl (omega arith) (omega arith)
right_is w old (suc (suc (suc (suc n)))) h i j = absurd (omega arith)

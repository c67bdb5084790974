-- Cop0 bit by bit: a word of two parts has the bits of its parts, and each sum of Cop0 is such parts in each other.
use Prim.Native.Nat.{ℕ, ◌+◌, ◌-◌, ◌*◌, ◌/◌, ◌%◌, ◌^◌, ◌<◌}
use native.Mathlib.Omega.{arith}
use native.Mathlib.Nat.{zero-div}
use mathlib.Core.Bool.{Bool, true, false, ◌&&◌}
use mathlib.Core.Path.{◌≡◌, refl, sym, ap, ◌∙◌}
use lib.Dec.{eqb, lit<}
use lib.Pow.{shr-shr, split, high, low, field, mod-mod-pow}
use Rattle.words.specs.Words.{bit_at}
use Rattle.gte_arithmetic.proofs.Flags.{and_bit}
use Rattle.cpu_alu.specs.Modular.{bit}
use Rattle.cpu_state.specs.System.{write_system_of, restored_of}
use Rattle.cpu_state.specs.Exceptions.{in_slot, raised_system}
use Rattle.step_laws.specs.Formed.{Only}
use Rattle.step_laws.specs.Cop0.{Pushed, Caused, RaisedBits, RestoredBits, WrittenBits}
use Rattle.step_laws.proofs.Masks.{cause_raised}

-- ---- a word of two parts
abbrev digit : ℕ → Bool
digit n = eqb (n % 2) 1

upper : (k h l b : ℕ) → l < 2 ^ k → bit_at (k + b) (h * 2 ^ k + l) ≡ bit_at b h
upper k h l b s = ap digit (sym (shr-shr (h * 2 ^ k + l) k b) ∙ ap (λ (n : ℕ). n / 2 ^ b) (high h k s))

-- bit b of a number depends on its low b + 1 bits alone
bit_of : (n b : ℕ) → n / 2 ^ b % 2 ≡ n % 2 ^ (1 + b) / 2 ^ b
bit_of n b = sym (field n 1 b)

lower : (k h l b : ℕ) → l < 2 ^ k → b < k → bit_at b (h * 2 ^ k + l) ≡ bit_at b l
lower k h l b s t =
    let x = h * 2 ^ k + l in
    let j = k - (1 + b) in
    let e : j + (1 + b) ≡ k = omega arith in
    let m : x % 2 ^ (1 + b) ≡ l % 2 ^ (1 + b) =
    sym (mod-mod-pow x j (1 + b)) ∙ ap (λ (n : ℕ). x % 2 ^ n % 2 ^ (1 + b)) e ∙ ap (λ (n : ℕ). n % 2 ^ (1 + b)) (low h k s) in
    ap (λ (n : ℕ). eqb n 1) (bit_of x b ∙ ap (λ (n : ℕ). n / 2 ^ b) m ∙ sym (bit_of l b))

-- what is shifted right, and what is cut
shifted : (k n b : ℕ) → bit_at b (n / 2 ^ k) ≡ bit_at (k + b) n
shifted k n b = ap digit (shr-shr n k b)

cut : (k n b : ℕ) → n % 2 ^ k < 2 ^ k → b < k → bit_at b (n % 2 ^ k) ≡ bit_at b n
cut k n b s t = sym (lower k (n / 2 ^ k) (n % 2 ^ k) b s t) ∙ ap (bit_at b) (split n k)

clear : (b : ℕ) → bit_at b 0 ≡ false
clear b = ap digit (zero-div (2 ^ b))

-- a number shifted left
left_low : (k h b : ℕ) → 0 < 2 ^ k → b < k → bit_at b (h * 2 ^ k + 0) ≡ false
left_low k h b s t = lower k h 0 b s t ∙ clear b

-- ---- SR after an exception
pushed : (sr : ℕ) → Pushed sr (sr / 64 * 64 + sr % 16 * 4)
pushed sr =
    let four : sr % 16 * 4 ≡ sr % 16 * 2 ^ 2 + 0 = omega arith in
    let small : sr % 16 * 4 < 64 = omega arith in
    let cut-4 : sr % 16 < 16 = omega arith in
    record {
      entering = λ b t. lower 6 (sr / 64) (sr % 16 * 4) b small (omega arith) ∙ ap (bit_at b) four ∙ left_low 2 (sr % 16) b (lit< tt) t;
      moved = λ b t.
          lower 6 (sr / 64) (sr % 16 * 4) (2 + b) small (omega arith) ∙ ap (bit_at (2 + b)) four ∙ upper 2 (sr % 16) 0 b (lit< tt) ∙ cut 4 sr b cut-4 t;
      kept = λ b. upper 6 (sr / 64) (sr % 16 * 4) b small ∙ shifted 6 sr b;
    }

-- ---- CAUSE after an exception
slot_bit : (t : Bool) → bit_at 0 (bit t) ≡ t
slot_bit true = refl
slot_bit false = refl

none_there : (s t : Bool) → (s && t) ≡ s → t ≡ false → s ≡ false
none_there true t e f = sym e ∙ f
none_there false t e f = refl

only_mask : (m x b : ℕ) → Only m x → bit_at b m ≡ false → bit_at b x ≡ false
only_mask m x b h f = none_there (bit_at b x) (bit_at b m) (sym (and_bit b x m) ∙ ap (bit_at b) h) f

caused : (t : Bool) (code unit cause : ℕ) → code < 32 → unit < 4 → Caused t code unit cause (bit t * 2 ^ 31 + (unit * 2 ^ 28 + cause / 0x100 % 4 * 0x100 + code * 4))
caused t code unit cause p q =
    let keep = cause / 0x100 % 4 in
    let top = bit t * 2 ^ 3 + unit in
    let mid = top * 2 ^ 20 + keep in
    let after = bit t * 2 ^ 31 + (unit * 2 ^ 28 + keep * 0x100 + code * 4) in
    let parts : after ≡ mid * 2 ^ 8 + code * 4 = omega arith in
    let two : code * 4 ≡ code * 2 ^ 2 + 0 = omega arith in
    let small : code * 4 < 256 = omega arith in
    let keep-4 : keep < 4 = omega arith in
    let keep-20 : keep < 2 ^ 20 = omega arith in
    let unit-3 : unit < 2 ^ 3 = omega arith in
    record {
      bd = ap (bit_at 31) parts ∙ upper 8 mid (code * 4) 23 small ∙ upper 20 top keep 3 keep-20 ∙ upper 3 (bit t) unit 0 unit-3 ∙ slot_bit t;
      ce = λ b s.
          let e : 28 + b ≡ 8 + (20 + b) = omega arith in
          ap (bit_at (28 + b)) parts ∙ ap (λ (n : ℕ). bit_at n (mid * 2 ^ 8 + code * 4)) e ∙ upper 8 mid (code * 4) (20 + b) small ∙ upper 20 top keep b keep-20 ∙ lower 3 (bit t) unit b unit-3 (omega arith);
      kept = λ b s.
          ap (bit_at (8 + b)) parts ∙ upper 8 mid (code * 4) b small ∙ lower 20 top keep b keep-20 (omega arith) ∙ cut 2 (cause / 2 ^ 8) b keep-4 s
          ∙ shifted 8 cause b;
      coded = λ b s.
          ap (bit_at (2 + b)) parts ∙ lower 8 mid (code * 4) (2 + b) small (omega arith) ∙ ap (bit_at (2 + b)) two ∙ upper 2 code 0 b (lit< tt);
      others = λ b f. only_mask 0xb000_037c after b (cause_raised t unit keep code q keep-4 p) f;
    }

pub raised_bits : RaisedBits
unfolding raised_system
raised_bits s f code unit p q = record { sr = pushed s.sr; cause = caused (in_slot f) code unit s.cause p q }

-- ---- RFE
pub restored_bits : RestoredBits
unfolding restored_of
restored_bits s =
    let sr = s.sr in
    let small : sr / 4 % 16 < 16 = omega arith in
    record {
      moved = λ b t. lower 4 (sr / 16) (sr / 4 % 16) b small t ∙ cut 4 (sr / 2 ^ 2) b small t ∙ shifted 2 sr b;
      kept = λ b. upper 4 (sr / 16) (sr / 4 % 16) b small ∙ shifted 4 sr b;
    }

-- ---- MTC0
pub written_bits : WrittenBits
unfolding write_system_of
written_bits v s =
    let c = s.cause in
    let new = v / 0x100 % 4 in
    let mid = c / 0x400 * 2 ^ 2 + new in
    let parts : c / 0x400 * 0x400 + new * 0x100 + c % 0x100 ≡ mid * 2 ^ 8 + c % 0x100 = omega arith in
    let small : c % 0x100 < 256 = omega arith in
    let new-4 : new < 4 = omega arith in
    record {
      sr = λ b. and_bit b v 0xf24f_ff3f;
      taken = λ b t.
          ap (bit_at (8 + b)) parts ∙ upper 8 mid (c % 0x100) b small ∙ lower 2 (c / 0x400) new b new-4 t ∙ cut 2 (v / 2 ^ 8) b new-4 t ∙ shifted 8 v b;
      below = λ b t. ap (bit_at b) parts ∙ lower 8 mid (c % 0x100) b small t ∙ cut 8 c b small t;
      above = λ b.
          let e : 10 + b ≡ 8 + (2 + b) = omega arith in
          ap (bit_at (10 + b)) parts ∙ ap (λ (n : ℕ). bit_at n (mid * 2 ^ 8 + c % 0x100)) e ∙ upper 8 mid (c % 0x100) (2 + b) small ∙ upper 2 (c / 0x400) new b new-4 ∙ shifted 10 c b;
    }

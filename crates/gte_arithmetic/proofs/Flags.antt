-- The laws of FLAG: a bit is set exactly when some check of that bit fails, bit 31 clear means that no counted bit is set,
-- and register 63 reads alike when it is read twice.
use mathlib.Core.Path.{◌≡◌, refl, sym, ap, ap₂, ◌∙◌}
use mathlib.Core.Bool.{Bool, true, false, cond, ◌&&◌, ◌||◌}
use mathlib.Core.List.{List, [], ◌∷◌, ◌++◌}
use Prim.Native.Nat.{ℕ, zero, suc, ◌+◌, ◌*◌, ◌/◌, ◌%◌, ◌^◌, ◌<◌, ◌≤◌, max, min}
use native.Mathlib.Omega.{arith}
use native.Mathlib.Nat.{mod-lt, zero-div, zero-add, mod-eq_of_lt, lt_of_le_of_lt}
use borrow.Author.Tests.{eqb-true, eqb-false, eq-eqb, ne_eqb}
use lib.Dec.{eqb, lit<}
use lib.Bits.{bit_or, bit_and, or_zero_r, or_self, or_shifted, and_le_r, and_block, and_zero_r, and_mod, and_high}
use lib.Bits as bits
use Rattle.std.proofs.lemmas.Nat.Bits.{bit_at_or, bit_at_and, bit_at-pow_same, bit_at-pow_other, bit_at-zero, same_from_bits}
use Rattle.gte_arithmetic.specs.Checks.{or, raise, Check, fails, flags, flag_word, counted, some}
use Rattle.words.specs.Words.{bit_at}

-- ---- laws of the OR
pub or_assoc : (a b c : ℕ) → or (or a b) c ≡ or a (or b c)
unfolding or
or_assoc a b c =
    same_from_bits (bit_or (bit_or a b) c) (bit_or a (bit_or b c))
    (λ i.
    bit_at_or (bit_or a b) c i ∙ ap (λ (n : ℕ). max n (c / 2 ^ i % 2)) (bit_at_or a b i) ∙ digit (a / 2 ^ i % 2) (b / 2 ^ i % 2) (c / 2 ^ i % 2)
    ∙ sym (bit_at_or a (bit_or b c) i ∙ ap (max (a / 2 ^ i % 2)) (bit_at_or b c i)))
  where
    digit : (x y z : ℕ) → max (max x y) z ≡ max x (max y z)
    digit x y z = omega arith

pub or_none : (a : ℕ) → or a 0 ≡ a
unfolding or
or_none a = or_zero_r a

or_self' : (a : ℕ) → or a a ≡ a
unfolding or
or_self' a = or_self a

-- a bit that is set twice
pub or_same : (a b : ℕ) → or a (or a b) ≡ or a b
or_same a b = sym (or_assoc a a b) ∙ ap (λ (x : ℕ). or x b) (or_self' a)

pub or_comm : (a b : ℕ) → or a b ≡ or b a
unfolding or
or_comm a b = bits.or_comm a b

pub or_left_comm : (a b c : ℕ) → or a (or b c) ≡ or b (or a c)
or_left_comm a b c = sym (or_assoc a b c) ∙ ap (λ (x : ℕ). or x c) (or_comm a b) ∙ or_assoc b a c

pub none_or : (a : ℕ) → or 0 a ≡ a
unfolding or
none_or a = refl

pub flags_++ : (a b : List Check) → flags (a ++ b) ≡ or (flags a) (flags b)
unfolding flags
flags_++ [] b = sym (none_or (flags b))
flags_++ (c ∷ cs) b = ap (or (raise (fails c.test) (2 ^ c.bit))) (flags_++ cs b) ∙ sym (or_assoc (raise (fails c.test) (2 ^ c.bit)) (flags cs) (flags b))

-- ---- bit by bit
two_digits : (u v : ℕ) → u < 2 → v < 2 → eqb (max u v) 1 ≡ (eqb u 1 || eqb v 1)
two_digits zero zero h k = refl
two_digits zero (suc zero) h k = refl
two_digits (suc zero) zero h k = refl
two_digits (suc zero) (suc zero) h k = refl
two_digits (suc (suc u)) v h k = let e : ⊥ = omega arith in absurd e
two_digits zero (suc (suc v)) h k = let e : ⊥ = omega arith in absurd e
two_digits (suc zero) (suc (suc v)) h k = let e : ⊥ = omega arith in absurd e

pub or_bit : (b x y : ℕ) → bit_at b (or x y) ≡ (bit_at b x || bit_at b y)
unfolding or
or_bit b x y =
    ap (λ (n : ℕ). eqb n 1) (bit_at_or x y b)
    ∙ two_digits (x / 2 ^ b % 2) (y / 2 ^ b % 2) (omega arith) (omega arith)

power_bit : (b k : ℕ) → bit_at b (2 ^ k) ≡ eqb k b
power_bit b k = go (eqb k b) refl
  where
    go : (t : Bool) → eqb k b ≡ t → bit_at b (2 ^ k) ≡ t
    go true q = let e : k ≡ b = eqb-true k b q in rw e (ap (λ (n : ℕ). eqb n 1) (bit_at-pow_same b))
    go false q = ap (λ (n : ℕ). eqb n 1) (bit_at-pow_other k b (λ e. eqb-false k b q (sym e)))

none_bit : (b : ℕ) → bit_at b 0 ≡ false
none_bit b = ap (λ (n : ℕ). eqb (n % 2) 1) (zero-div (2 ^ b))

raised_bit : (b k : ℕ) (t : Bool) → bit_at b (raise t (2 ^ k)) ≡ (eqb k b && t)
raised_bit b k true = power_bit b k ∙ and_true (eqb k b)
  where
    and_true : (t : Bool) → t ≡ (t && true)
    and_true true = refl
    and_true false = refl
raised_bit b k false = none_bit b ∙ and_false (eqb k b)
  where
    and_false : (t : Bool) → false ≡ (t && false)
    and_false true = refl
    and_false false = refl

-- a bit of FLAG is set exactly when some check of that bit fails
pub flags_bit : (b : ℕ) (cs : List Check) → bit_at b (flags cs) ≡ some b cs
unfolding flags
flags_bit b [] = none_bit b
flags_bit b (c ∷ cs) =
    or_bit b (raise (fails c.test) (2 ^ c.bit)) (flags cs)
    ∙ ap₂ (λ (x y : Bool). x || y) (raised_bit b c.bit (fails c.test)) (flags_bit b cs)

-- ---- bit 31
least : (u v : ℕ) → u < 2 → v ≡ 1 → min u v ≡ 0 → eqb u 1 ≡ false
least zero v h e m = refl
least (suc u) v h e m = let k : ⊥ = omega arith in absurd k

-- where bit 31 is clear, so is each bit that counts
pub clear_31 : (f b : ℕ) → bit_at 31 (flag_word f) ≡ false → counted / 2 ^ b % 2 ≡ 1 → bit_at b f ≡ false
unfolding flag_word
clear_31 f b h e = go (eqb (bit_and f counted) 0) refl h
  where
    go : (t : Bool) → eqb (bit_and f counted) 0 ≡ t → bit_at 31 (cond t 0 0x8000_0000 + bit_and f 0x7fff_f000) ≡ false → bit_at b f ≡ false
    go true q h =
        least (f / 2 ^ b % 2) (counted / 2 ^ b % 2) (omega arith) e
        (sym (bit_at_and f counted b) ∙ ap (λ (n : ℕ). n / 2 ^ b % 2) (eqb-true (bit_and f counted) 0 q) ∙ bit_at-zero b)
    go false q h = absurd (clash (sym (is_set f (and_le_r f 0x7fff_f000)) ∙ h))
      where
        clash : ◌≡◌ {A = Bool} true false → ⊥
        clash e = let z : ◌≡◌ {A = ℕ} 0 1 = cc in omega arith

        one_is : (x : ℕ) → x ≤ 0x7fff_f000 → (0x8000_0000 + x) / 0x8000_0000 % 2 ≡ 1
        one_is x l = omega arith

        is_set : (f : ℕ) → bit_and f 0x7fff_f000 ≤ 0x7fff_f000 → bit_at 31 (0x8000_0000 + bit_and f 0x7fff_f000) ≡ true
        is_set f l = ap (λ (n : ℕ). eqb n 1) (one_is (bit_and f 0x7fff_f000) l)

-- ---- parts of a list
pub fst : (a b : Bool) → (a || b) ≡ false → a ≡ false
fst true b h = h
fst false b h = refl

pub snd : (a b : Bool) → (a || b) ≡ false → b ≡ false
snd true b h = let z : ◌≡◌ {A = ℕ} 0 1 = cc in let e : ⊥ = omega arith in absurd e
snd false b h = h

or_or : (x y z : Bool) → (x || (y || z)) ≡ ((x || y) || z)
or_or true y z = refl
or_or false y z = refl

pub some_++ : (b : ℕ) (p q : List Check) → some b (p ++ q) ≡ (some b p || some b q)
some_++ b [] q = refl
some_++ b (c ∷ p) q =
    ap (λ (t : Bool). (eqb c.bit b && fails c.test) || t) (some_++ b p q)
    ∙ or_or (eqb c.bit b && fails c.test) (some b p) (some b q)

-- ---- register 63 reads alike when it is read twice
cut_12 : (f : ℕ) → bit_and f counted ≡ bit_and (f / 4096 % 524288) 0x7f87e * 4096
cut_12 f =
    ap (λ (x : ℕ). bit_and x counted) (parts f) ∙ and_block 12 (f / 4096) 0x7f87e (f % 4096) 0 (mod-lt f (lit< tt)) (lit< tt)
    ∙ ap₂ (λ (x y : ℕ). x * 4096 + y) (low (f / 4096)) (and_zero_r (f % 4096)) ∙ omega arith
  where
    parts : (f : ℕ) → f ≡ f / 4096 * 4096 + f % 4096
    parts f = omega arith

    low : (a : ℕ) → bit_and a 0x7f87e ≡ bit_and (a % 524288) 0x7f87e
    low a = sym (mod-eq_of_lt (lt_of_le_of_lt (and_le_r a 0x7f87e) (lit< tt))) ∙ and_mod a 0x7f87e 19

middle : (f : ℕ) → bit_and f 0x7fff_f000 ≡ f / 4096 % 524288 * 4096
middle f = and_high f 19 12

pub flag_word_twice : (f : ℕ) → flag_word (flag_word f) ≡ flag_word f
unfolding flag_word
flag_word_twice f = ap₂ (λ (x y : ℕ). cond (eqb x 0) 0 0x8000_0000 + y) (cut_12 (flag_word f) ∙ ap (λ (x : ℕ). bit_and x 0x7f87e * 4096) (same f) ∙ sym (cut_12 f)) (middle (flag_word f) ∙ ap (λ (x : ℕ). x * 4096) (same f) ∙ sym (middle f))
  where
    top : (t : Bool) (x : ℕ) → x < 524288 → (cond t 0 0x8000_0000 + x * 4096) / 4096 % 524288 ≡ x
    top true x h = omega arith
    top false x h = omega arith

    same : (f : ℕ) → flag_word f / 4096 % 524288 ≡ f / 4096 % 524288
    same f = ap (λ (y : ℕ). (cond (eqb (bit_and f counted) 0) 0 0x8000_0000 + y) / 4096 % 524288) (middle f) ∙ top (eqb (bit_and f counted) 0) (f / 4096 % 524288) (omega arith)

-- ---- bits of an AND, and of register 63
or_at : (b x y : ℕ) → bit_at b (bit_or x y) ≡ (bit_at b x || bit_at b y)
unfolding or
or_at b x y = or_bit b x y

digit_and : (u v : ℕ) → u < 2 → v < 2 → eqb (min u v) 1 ≡ (eqb u 1 && eqb v 1)
digit_and zero v h k = ap (λ (n : ℕ). eqb n 1) (zero_min v)
  where
    zero_min : (v : ℕ) → min 0 v ≡ 0
    zero_min v = omega arith
digit_and (suc zero) zero h k = refl
digit_and (suc zero) (suc zero) h k = refl
digit_and (suc zero) (suc (suc v)) h k = let e : ⊥ = omega arith in absurd e
digit_and (suc (suc u)) v h k = let e : ⊥ = omega arith in absurd e

pub and_bit : (b x y : ℕ) → bit_at b (bit_and x y) ≡ (bit_at b x && bit_at b y)
and_bit b x y =
    ap (λ (n : ℕ). eqb n 1) (bit_at_and x y b)
    ∙ digit_and (x / 2 ^ b % 2) (y / 2 ^ b % 2) (omega arith) (omega arith)

-- every bit of register 63 but bit 31 is that of what was written, under the mask of bits 30..12
pub flag_word_bit : (f b : ℕ) → (31 ≡ b → ⊥) → bit_at b (flag_word f) ≡ (bit_at b f && bit_at b 0x7fff_f000)
unfolding flag_word
flag_word_bit f b other = go (eqb (bit_and f counted) 0) ∙ and_bit b f 0x7fff_f000
  where
    top : (x : ℕ) → x ≤ 0x7fff_f000 → bit_at b (0x8000_0000 + x) ≡ bit_at b x
    top x l =
        ap (bit_at b) (sym (or_shifted 1 31 x (omega arith))) ∙ or_at b (2 ^ 31) x
        ∙ ap (λ (t : Bool). t || bit_at b x) (power_bit b 31 ∙ ne_eqb 31 b other)

    go : (t : Bool) → bit_at b (cond t 0 0x8000_0000 + bit_and f 0x7fff_f000) ≡ bit_at b (bit_and f 0x7fff_f000)
    go true = ap (bit_at b) (zero-add (bit_and f 0x7fff_f000))
    go false = top (bit_and f 0x7fff_f000) (and_le_r f 0x7fff_f000)

-- a number with no bit set is 0
no_bits : (n : ℕ) → ((b : ℕ) → bit_at b n ≡ false) → n ≡ 0
no_bits n h = same_from_bits n 0 (λ b. digit_0 (n / 2 ^ b % 2) (omega arith) (eqb-false (n / 2 ^ b % 2) 1 (h b)) ∙ sym (bit_at-zero b))
  where
    digit_0 : (d : ℕ) → d < 2 → (d ≡ 1 → ⊥) → d ≡ 0
    digit_0 d l n = omega arith

-- where each counted bit is clear, so is bit 31: with `clear_31`, bit 31 is the OR of the counted bits
pub clear_all : (f : ℕ) → ((b : ℕ) → bit_at b counted ≡ true → bit_at b f ≡ false) → bit_at 31 (flag_word f) ≡ false
unfolding flag_word
clear_all f h = ap (λ (t : Bool). bit_at 31 (cond t 0 0x8000_0000 + bit_and f 0x7fff_f000)) (eq-eqb (bit_and f counted) 0 (no_bits (bit_and f counted) none_set)) ∙ low (bit_and f 0x7fff_f000) (and_le_r f 0x7fff_f000)
  where
    both : (s t : Bool) → (t ≡ true → s ≡ false) → (s && t) ≡ false
    both true true k = k refl
    both true false k = refl
    both false t k = refl

    none_set : (b : ℕ) → bit_at b (bit_and f counted) ≡ false
    none_set b = and_bit b f counted ∙ both (bit_at b f) (bit_at b counted) (h b)

    quotient_0 : (x : ℕ) → x ≤ 0x7fff_f000 → (0 + x) / 0x8000_0000 % 2 ≡ 0
    quotient_0 x l = omega arith

    low : (x : ℕ) → x ≤ 0x7fff_f000 → bit_at 31 (0 + x) ≡ false
    low x l = ap (λ (n : ℕ). eqb n 1) (quotient_0 x l)

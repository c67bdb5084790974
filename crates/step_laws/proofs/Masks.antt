-- SR and CAUSE keep to their bits.
use Prim.Native.Nat.{ℕ, ◌+◌, ◌-◌, ◌*◌, ◌/◌, ◌%◌, ◌^◌, ◌<◌, min}
use native.Mathlib.Omega.{arith}
use native.Mathlib.Nat.{mul-add-mod_self_right, mod-eq_of_lt}
use mathlib.Core.Bool.{Bool, true, false}
use mathlib.Core.Path.{◌≡◌, refl, sym, ap, ap₂, ◌∙◌}
use lib.Arith.{bin_ind}
use lib.Bits.{bit_and, and_step, and_shr, and_mod, and_mask, and_block}
use lib.Dec.{lit<}
use Rattle.cpu_alu.specs.Modular.{bit}
use Rattle.step_laws.specs.Formed.{Only}

-- ---- a word of two parts
pub both : (k m l a r : ℕ) → l < 2 ^ k → r < 2 ^ k → Only m a → Only l r → Only (m * 2 ^ k + l) (a * 2 ^ k + r)
both k m l a r p q h g = and_block k a m r l q p ∙ ap₂ (λ (x y : ℕ). x * 2 ^ k + y) h g

pub upper : (k m x : ℕ) → Only m x → Only (m / 2 ^ k) (x / 2 ^ k)
upper k m x h = sym (and_shr x m k) ∙ ap (λ (n : ℕ). n / 2 ^ k) h

pub lower : (k m x : ℕ) → Only m x → Only (m % 2 ^ k) (x % 2 ^ k)
lower k m x h = sym (and_mod x m k) ∙ ap (λ (n : ℕ). n % 2 ^ k) h

pub every : (k x : ℕ) → x < 2 ^ k → Only (2 ^ k - 1) x
every k x h = and_mask x k ∙ mod-eq_of_lt h

and_odd : (a b : ℕ) → bit_and a b % 2 ≡ min (a % 2) (b % 2)
and_odd a b = ap (λ (x : ℕ). x % 2) (and_step a b) ∙ mul-add-mod_self_right (bit_and (a / 2) (b / 2)) 2 (min (a % 2) (b % 2)) ∙ omega arith

-- what was masked has only the mask's bits
pub masked : (v m : ℕ) → Only m (bit_and v m)
masked = bin_ind (λ (n : ℕ). (m : ℕ) → Only m (bit_and n m)) (λ m. refl) step
  where
    digit : (x y : ℕ) → min (min x y) y ≡ min x y
    digit x y = omega arith

    step : (n : ℕ) → ((m : ℕ) → Only m (bit_and (n / 2) m)) → (m : ℕ) → Only m (bit_and n m)
    step n ih m =
        and_step (bit_and n m) m
        ∙ ap₂ (λ (x y : ℕ). x * 2 + y)
        (ap (λ (x : ℕ). bit_and x (m / 2)) (and_shr n m 1) ∙ ih (m / 2))
        (ap (λ (x : ℕ). min x (m % 2)) (and_odd n m) ∙ digit (n % 2) (m % 2))
        ∙ sym (and_step n m)

-- ---- SR: the low six bits are free
pub sr_low : (x y : ℕ) → Only 0xf24f_ff3f x → y / 64 ≡ x / 64 → Only 0xf24f_ff3f y
sr_low x y h e =
    let parts : y ≡ y / 64 * 64 + y % 64 = omega arith in
    let low : y % 64 < 64 = omega arith in
    let high : Only 0x3c9_3ffc (y / 64) = rw e (upper 6 0xf24f_ff3f x h) in
    rw parts (both 6 0x3c9_3ffc 63 (y / 64) (y % 64) (lit< tt) low high (every 6 (y % 64) low))

-- ---- CAUSE: BD, CE, bits 9..8, the code
low_bits : (d e : ℕ) → d < 4 → e < 256 → Only 0x7c e → Only 0x37c (d * 256 + e)
low_bits d e p q h = both 8 3 0x7c d e (lit< tt) q (every 2 d p) h

pub code_bits : (code : ℕ) → code < 32 → Only 0x7c (code * 4)
code_bits code h =
    let z : code * 4 ≡ code * 4 + 0 = omega arith in
    rw z (both 2 31 0 code 0 (lit< tt) (lit< tt) (every 5 code h) refl)

top_bit : (b : Bool) → Only 2 (bit b * 2)
top_bit true = refl
top_bit false = refl

top_bits : (b : Bool) (u : ℕ) → u < 4 → Only 11 (bit b * 2 * 4 + u)
top_bits b u h = both 2 2 3 (bit b * 2) u (lit< tt) h (top_bit b) (every 2 u h)

pub cause_raised : (b : Bool) (u d code : ℕ) → u < 4 → d < 4 → code < 32 → Only 0xb000_037c (bit b * 2 ^ 31 + (u * 2 ^ 28 + d * 0x100 + code * 4))
cause_raised b u d code p q h =
    let t = bit b * 2 * 4 + u in
    let parts : bit b * 2 ^ 31 + (u * 2 ^ 28 + d * 0x100 + code * 4) ≡ (t * 2 ^ 18 + 0) * 2 ^ 10 + (d * 256 + code * 4) = omega arith in
    let low : d * 256 + code * 4 < 1024 = omega arith in
    rw parts
    (both 10 0x2c_0000 0x37c (t * 2 ^ 18 + 0) (d * 256 + code * 4) (lit< tt) low
    (both 18 11 0 t 0 (lit< tt) (lit< tt) (top_bits b u p) refl) (low_bits d (code * 4) q (omega arith) (code_bits code h)))

pub cause_written : (c d : ℕ) → d < 4 → Only 0xb000_037c c → Only 0xb000_037c (c / 0x400 * 0x400 + d * 0x100 + c % 0x100)
cause_written c d q h =
    let low : d * 256 + c % 256 < 1024 = omega arith in
    let small : c % 256 < 256 = omega arith in
    let parts : c / 0x400 * 0x400 + d * 0x100 + c % 0x100 ≡ c / 1024 * 1024 + (d * 256 + c % 256) = omega arith in
    rw parts
    (both 10 0x2c_0000 0x37c (c / 1024) (d * 256 + c % 256) (lit< tt) low (upper 10 0xb000_037c c h) (low_bits d (c % 256) q small (lower 8 0xb000_037c c h)))

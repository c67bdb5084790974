-- A product of words from the four products of their halves, and its two words.
use Rattle.std.proofs.Common.{◌≡◌, ℕ, suc, ◌+◌, ◌-◌, ◌*◌, ◌/◌, ◌%◌, ◌^◌, ◌<◌, ◌≤◌, Bool, true, false, ltb, ℤ, pos, ◌*ℤ◌, sym, refl, ap, ◌∙◌, mul_assoc, mul_comm, add-mul, mul-le-mul, div-add-mod', mul-add, mul_left_comm, arith, lit<, w32, w64, Fits, to_z, of_z, ltb-false, ltb-true}
use lib.Signed.{shr_z}
use mir.Facts.{to_z_pos, of_z-to_z, sfits_to_z}
use Rattle.integers.specs.Parts.{pos_part, neg_part, parts_sub, zarith}
use Rattle.integers.specs.Floor.{mod_z, mod_below, mod_parts, mod_unique, shr_unique}
use Rattle.integers.specs.Bound.{arg, mag_le, mag_mul}
use Rattle.integers.specs.Bits.{to_z_hi, to_z_mod}
use Rattle.integers.specs.Wrap.{wrap_fits}
use Rattle.integers.specs.Ring.{◌⊖◌, ⊖_parts, ⊖_mul, ⊖_≡, lit}
use Rattle.cpu_alu.specs.MulDiv.{product_of, unsigned_product_of, joined, Words, Only, UnsignedExact, SignedExact}
use Rattle.cpu_alu.specs.declared.mul_div.HiLo.{HiLo}

-- ---- naturals

-- a product of halves fits a word, and one of words 64 bits
pub below : (m : ℕ) {x y : ℕ} → x < suc m → y < suc m → x * y ≤ m * m
below m h k = mul-le-mul (omega arith) (omega arith)

parts : (a₁ a₀ b₁ b₀ : ℕ) → (a₁ * 65536 + a₀) * (b₁ * 65536 + b₀) ≡ a₁ * b₁ * 2 ^ 32 + (a₀ * b₁ + a₁ * b₀) * 65536 + a₀ * b₀
parts a₁ a₀ b₁ b₀ = simp (mul-add, add-mul, mul_assoc, mul_comm, mul_left_comm) (omega arith)

-- the four products of halves
from_halves : (a b : ℕ) → a * b ≡ a / 65536 * (b / 65536) * 2 ^ 32 + (a % 65536 * (b / 65536) + a / 65536 * (b % 65536)) * 65536 + a % 65536 * (b % 65536)
from_halves a b = rw (div-add-mod' a 65536, div-add-mod' b 65536) at (parts (a / 65536) (a % 65536) (b / 65536) (b % 65536))

-- the carries: what the four products come to is what the two words hold
carried : (low m o high part c d lo : ℕ) → part ≡ (low + m * 65536 % 2 ^ 32) % 2 ^ 32 → c ≡ (low + m * 65536 % 2 ^ 32) / 2 ^ 32
    → d ≡ (part + o * 65536 % 2 ^ 32) / 2 ^ 32 → lo ≡ (part + o * 65536 % 2 ^ 32) % 2 ^ 32
    → high * 2 ^ 32 + (m + o) * 65536 + low ≡ (high + m / 65536 + o / 65536 + c + d) * 2 ^ 32 + lo
carried low m o high part c d lo ep ec ed el = omega arith

two_words : (n hi lo : ℕ) → lo < 2 ^ 32 → n ≡ hi * 2 ^ 32 + lo → ◌≡◌ {A = HiLo} (record { hi = hi; lo = lo }) (record { hi = n / 2 ^ 32; lo = n % 2 ^ 32 })
two_words n hi lo h e =
    let f : n / 2 ^ 32 ≡ hi = omega arith in
    let g : n % 2 ^ 32 ≡ lo = omega arith in
    rw (f, g)

-- the words of MULTU from the products of halves and their carries
pub unsigned_words : (a b low m o high c d : ℕ) → low ≡ a % 65536 * (b % 65536) → m ≡ a % 65536 * (b / 65536) → o ≡ a / 65536 * (b % 65536) → high ≡ a / 65536 * (b / 65536)
    → c ≡ (low + m * 65536 % 2 ^ 32) / 2 ^ 32 → d ≡ ((low + m * 65536 % 2 ^ 32) % 2 ^ 32 + o * 65536 % 2 ^ 32) / 2 ^ 32
    → record { hi = high + m / 65536 + o / 65536 + c + d; lo = ((low + m * 65536 % 2 ^ 32) % 2 ^ 32 + o * 65536 % 2 ^ 32) % 2 ^ 32 } ≡ unsigned_product_of a b
unfolding unsigned_product_of
unsigned_words a b low m o high c d el em eo eh ec ed =
    two_words (a * b) _ _ (omega arith)
    (from_halves a b ∙ rw (← el, ← em, ← eo, ← eh) (carried low m o high _ c d _ refl ec ed refl))

-- ---- integers

-- the words of p - n are those that differ from it by a multiple of 2^64
words_are : (p n j k hi lo : ℕ) → hi < 2 ^ 32 → lo < 2 ^ 32 → p + j * 2 ^ 64 ≡ n + k * 2 ^ 64 + (hi * 2 ^ 32 + lo)
    → ◌≡◌ {A = HiLo} (record { hi = hi; lo = lo }) (record { hi = mod_z (shr_z (p ⊖ n) (2 ^ 32)) (2 ^ 32); lo = mod_z (p ⊖ n) (2 ^ 32) })
words_are p n j k hi lo f g e =
    let q = (hi + k * 2 ^ 32) ⊖ (j * 2 ^ 32) in
    let d = ⊖_parts p n in
    let c = ⊖_parts (hi + k * 2 ^ 32) (j * 2 ^ 32) in
    let b = ⊖_parts k j in
    let s : shr_z (p ⊖ n) (2 ^ 32) ≡ q = shr_unique (p ⊖ n) q (2 ^ 32) (omega arith) (omega arith) (omega arith) in
    rw (s, mod_unique (p ⊖ n) q (2 ^ 32) lo g (omega arith), mod_unique q (k ⊖ j) (2 ^ 32) hi f (omega arith))

-- a word as a signed number: its sign bit counts 2^32 less
signed : (n : ℕ) → n < 2 ^ 32 → to_z w32 n ≡ n ⊖ (n / 2 ^ 31 * 2 ^ 32)
unfolding pos_part neg_part
signed n h = pick (ltb n (2 ^ 31)) refl
  where
    pick : (t : Bool) → ltb n (2 ^ 31) ≡ t → to_z w32 n ≡ n ⊖ (n / 2 ^ 31 * 2 ^ 32)
    pick true e = let k = ltb-true n (2 ^ 31) e in to_z_pos w32 k ∙ lit n ∙ ⊖_≡ _ _ _ _ (omega arith)
    pick false e =
        let k = ltb-false n (2 ^ 31) e in
        to_z_hi w32 n k h ∙ omega (zarith, parts_sub (pos n) (pos (2 ^ 32)), ⊖_parts n (n / 2 ^ 31 * 2 ^ 32))

turned : (a b s t : ℕ) → (a * (t * 2 ^ 32) ≡ t * a * 2 ^ 32) × (s * 2 ^ 32 * b ≡ s * b * 2 ^ 32) × (s * 2 ^ 32 * (t * 2 ^ 32) ≡ s * t * 2 ^ 64)
turned a b s t =
    (simp (mul_assoc, mul_comm), simp (mul_assoc, mul_comm, mul_left_comm), simp (mul_assoc, mul_left_comm) (omega arith))

-- the words of MULT from MULTU's: HI less the other factor for each negative one
pub signed_words : (a b : ℕ) (u : HiLo) (x y : ℕ) → a < 2 ^ 32 → b < 2 ^ 32 → x < 2 ^ 32 → y < 2 ^ 32 → u ≡ unsigned_product_of a b → x ≡ a / 2 ^ 31 * b → y ≡ b / 2 ^ 31 * a
    → record { hi = ((u.hi + (2 ^ 32 - x)) % 2 ^ 32 + (2 ^ 32 - y)) % 2 ^ 32; lo = u.lo } ≡ product_of a b
unfolding product_of unsigned_product_of
signed_words a b u x y fa fb fx fy e ex ey =
    let s = a / 2 ^ 31 in
    let t = b / 2 ^ 31 in
    let k = turned a b s t in
    let part = (u.hi + (2 ^ 32 - x)) % 2 ^ 32 in
    let hi = (part + (2 ^ 32 - y)) % 2 ^ 32 in
    let high : u.hi < 2 ^ 32 = omega (arith, below 0xffff_ffff fa fb, ap (λ (r : HiLo). r.hi) e) in
    let ep : (part + x) % 2 ^ 32 ≡ u.hi = omega arith in
    let eh : (hi + y) % 2 ^ 32 ≡ part = omega arith in
    rw (signed a fa, signed b fb, ⊖_mul)
    (words_are (a * b + s * 2 ^ 32 * (t * 2 ^ 32)) (a * (t * 2 ^ 32) + s * 2 ^ 32 * b) ((part + x) / 2 ^ 32 + (hi + y) / 2 ^ 32) (s * t) hi u.lo (omega arith)
    (omega (arith, ap (λ (r : HiLo). r.lo) e)) (omega (arith, ap (λ (r : HiLo). r.hi) e, ap (λ (r : HiLo). r.lo) e)))

-- ---- the exact product

one_pair : (r s : HiLo) → Words r → Words s → joined r ≡ joined s → r ≡ s
one_pair r s f g e =
    two_words (joined r) r.hi r.lo f.1 refl ∙ rw e (sym (two_words (joined s) s.hi s.lo g.1 refl))

exact : {right : HiLo → Type 0} {r : HiLo} → Words r → right r → (Words r → (s : HiLo) → Words s → right s → joined s ≡ joined r) → Only right r
exact {right} {r} w h same = record { words = w; holds = h; only = λ s k e. one_pair s r k w (same w s k e) }

pub unsigned_exact : UnsignedExact
unfolding unsigned_product_of
unsigned_exact a b f g =
    exact (omega (arith, below 0xffff_ffff f.fits g.fits), omega arith) (omega arith) (λ w s k e. omega arith)

-- the two words of an integer, side by side
joined_is : (z : ℤ) → mod_z z (2 ^ 64) ≡ mod_z (shr_z z (2 ^ 32)) (2 ^ 32) * 2 ^ 32 + mod_z z (2 ^ 32)
joined_is z =
    let m : ℕ = 2 ^ 32 in
    let s = shr_z z m in
    mod_unique z (shr_z s m) (2 ^ 64) (mod_z s m * m + mod_z z m)
    (omega (arith, mod_below z m (lit< tt), mod_below s m (lit< tt)))
    (omega (arith, mod_parts z m (lit< tt), mod_parts s m (lit< tt)))

joined_fits : (r : HiLo) → Words r → Fits w64 (joined r)
joined_fits r f = record { fits = omega (arith, f.0, f.1) }

pub signed_exact : SignedExact
unfolding product_of
signed_exact a b f g =
    let z = to_z w32 a *ℤ to_z w32 b in
    let h = ap (to_z w64) (sym (joined_is z)) ∙ to_z_mod w64 z ∙ wrap_fits (2 ^ 63) (mag_le (mag_mul (arg w32 (sfits_to_z f)) (arg w32 (sfits_to_z g))) (omega arith)) in
    exact (mod_below (shr_z z (2 ^ 32)) (2 ^ 32) (lit< tt), mod_below z (2 ^ 32) (lit< tt)) h
    (λ w s k e. sym (of_z-to_z {w = w64} (joined_fits s k)) ∙ ap (of_z w64) (e ∙ sym h) ∙ of_z-to_z {w = w64} (joined_fits _ w))

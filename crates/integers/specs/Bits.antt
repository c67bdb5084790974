-- The machine's bits and the integers that they stand for. `to_z w n` reads the bits n in two's complement, `of_z w z`
-- gives the bits of z; that each undoes the other is the kit's (`to_z-of_z`, `of_z-to_z` of mir.Facts).
use Rattle.std.specs.Prelude.{◌≡◌, refl, Bool, true, false, ℕ, zero, suc, ◌+◌, ◌*◌, ◌-◌, ◌^◌, ◌<◌, ◌≤◌, ℤ, pos, negsuc, ◌-ℤ◌, nat_abs, ◌≤ℤ◌, ◌<ℤ◌, T, eqb, ltb}
use Rattle.std.proofs.Common.{sym, ap, ◌∙◌, arith, ltb→lt, nltb→le, pow_pos, to_z-of_z, eq-eqb, ne_eqb}
use Rattle.std.specs.Int.Signed.{non_neg}
use Rattle.std.specs.Int.{Width}
use mir.Val.{Fits, SFits, bits, hbits, to_z, of_z, sel}
use mir.ValLaws.{pow-bits}
use Rattle.std.proofs.Math.Facts.{to_z_pos, of_z-to_z}
use Rattle.integers.specs.Parts.{pos_part, neg_part, parts_sub, cond_ind, zarith}
use Rattle.integers.specs.Floor.{mod_z, mod_below, mod_same}
use Rattle.integers.specs.Wrap.{wrap, wrap_in, wrap_over, wrap_mod}

-- ---- bits to integers

-- with the sign bit set, the bits stand for 2^w less (`to_z_pos` of mir.Facts has the other half)
pub to_z_hi : (w : Width) (n : ℕ) → 2 ^ hbits w ≤ n → n < 2 ^ bits w → to_z w n ≡ pos n -ℤ pos (2 ^ bits w)
unfolding pos_part neg_part
to_z_hi w n h k = pick (ltb n (2 ^ hbits w)) (ltb→lt n (2 ^ hbits w)) ∙ sym same
  where
    pick : (b : Bool) → (T b → n < 2 ^ hbits w) → sel b (pos n) (negsuc (2 ^ bits w - suc n)) ≡ negsuc (2 ^ bits w - suc n)
    pick true t = let z : ⊥ = omega (arith, t tt) in absurd z
    pick false t = refl

    same : pos n -ℤ pos (2 ^ bits w) ≡ negsuc (2 ^ bits w - suc n)
    same = omega (zarith, parts_sub (pos n) (pos (2 ^ bits w)))

twice : (w : Width) → 2 ^ bits w ≡ 2 ^ hbits w + 2 ^ hbits w
twice w = pow-bits w ∙ double (2 ^ hbits w)
  where
    double : (n : ℕ) → n * 2 ≡ n + n
    double n = omega arith

-- the signed reading is a wrap
pub to_z_wrap : (w : Width) (n : ℕ) → Fits w n → to_z w n ≡ wrap (2 ^ hbits w) (pos n)
unfolding pos_part neg_part
to_z_wrap w n f =
    cond_ind (ltb n (2 ^ hbits w)) true false (λ b. to_z w n ≡ wrap (2 ^ hbits w) (pos n))
    (λ t. let h = ltb→lt n (2 ^ hbits w) t in to_z_pos w h ∙ sym (wrap_in (2 ^ hbits w) (pos n) (omega arith) (omega arith)))
    (λ t. let h = nltb→le n (2 ^ hbits w) t in
    to_z_hi w n h f.fits ∙ ap (λ (m : ℕ). pos n -ℤ pos m) (twice w)
    ∙ sym (wrap_over (2 ^ hbits w) (pos n) (omega arith) (omega (arith, f.fits, twice w))))

-- the signed reading of the low bits of z
pub to_z_mod : (w : Width) (z : ℤ) → to_z w (mod_z z (2 ^ bits w)) ≡ wrap (2 ^ hbits w) z
to_z_mod w z =
    to_z_wrap w (mod_z z (2 ^ bits w)) (record { fits = mod_below z (2 ^ bits w) (pow_pos (bits w)) })
    ∙ ap (λ (m : ℕ). wrap (2 ^ hbits w) (pos (mod_z z m))) (twice w) ∙ wrap_mod (2 ^ hbits w) z (pow_pos (hbits w))

-- ---- integers to bits
pub of_z_nonneg : (w : Width) (z : ℤ) → pos 0 ≤ℤ z → of_z w z + neg_part z ≡ pos_part z
unfolding pos_part neg_part
of_z_nonneg w (pos n) h = omega arith
of_z_nonneg w (negsuc n) h = absurd h.le

pub of_z_neg : (w : Width) (z : ℤ) → z <ℤ pos 0 → SFits w z → of_z w z + neg_part z ≡ pos_part z + 2 ^ bits w
unfolding pos_part neg_part
of_z_neg w (pos n) h f = let k : ⊥ = omega (arith, ltb→lt n 0 h.lt) in absurd k
of_z_neg w (negsuc n) h f = omega (arith, f.sfits, pow-bits w)

-- the bits of z are its remainder by 2^w
pub of_z_mod : (w : Width) (z : ℤ) → SFits w z → of_z w z ≡ mod_z z (2 ^ bits w)
unfolding pos_part neg_part
of_z_mod w (pos n) f = sym (mod_same (pos n) (2 ^ bits w) n 0 0 (omega (arith, f.sfits, pow-bits w)) (omega arith))
of_z_mod w (negsuc n) f = sym (mod_same (negsuc n) (2 ^ bits w) (2 ^ bits w - suc n) 0 1 (omega (arith, f.sfits, pow-bits w)) (omega (arith, f.sfits, pow-bits w)))

-- the bits of a wrapped number are the low bits of the number itself
pub of_z_wrap : (w : Width) (z : ℤ) → of_z w (wrap (2 ^ hbits w) z) ≡ mod_z z (2 ^ bits w)
of_z_wrap w z =
    ap (of_z w) (sym (to_z_mod w z)) ∙ of_z-to_z {w = w} (record { fits = mod_below z (2 ^ bits w) (pow_pos (bits w)) })

-- ---- casts of signed numbers that are not negative to unsigned types: what the cast asks, and what it gives
pub unsign : (w : Width) (z : ℤ) → pos 0 ≤ℤ z → z <ℤ pos (2 ^ bits w) → T (non_neg z) × Fits w (nat_abs z)
unsign w (pos n) h k = (tt, record { fits = ltb→lt n (2 ^ bits w) k.lt })
unsign w (negsuc n) h k = absurd h.le

pub nat_abs_nonneg : (z : ℤ) → pos 0 ≤ℤ z → nat_abs z + neg_part z ≡ pos_part z
unfolding pos_part neg_part
nat_abs_nonneg (pos n) h = omega arith
nat_abs_nonneg (negsuc n) h = absurd h.le

-- ---- equality of signed numbers: as a test in definitions, and by the bits, which is how the machine tests it
abbrev pub eq_z : ℤ → ℤ → Bool
eq_z (pos a) (pos b) = eqb a b
eq_z (pos a) (negsuc b) = false
eq_z (negsuc a) (pos b) = false
eq_z (negsuc a) (negsuc b) = eqb a b

pub eq_z_refl : (z : ℤ) → eq_z z z ≡ true
eq_z_refl (pos n) = eq-eqb n n refl
eq_z_refl (negsuc n) = eq-eqb n n refl

pub eq_z_no : (a b : ℤ) → (a ≡ b → ⊥) → eq_z a b ≡ false
eq_z_no (pos a) (pos b) h = ne_eqb a b (λ e. h (ap pos e))
eq_z_no (pos a) (negsuc b) h = refl
eq_z_no (negsuc a) (pos b) h = refl
eq_z_no (negsuc a) (negsuc b) h = ne_eqb a b (λ e. h (ap negsuc e))

pub by_bits : (w : Width) {a b : ℤ} → SFits w a → SFits w b → of_z w a ≡ of_z w b → a ≡ b
by_bits w {a} {b} f g e = sym (to_z-of_z f) ∙ ap (to_z w) e ∙ to_z-of_z g

-- a divisor that is not 0 has bits that are not 0
pub nonzero : (w : Width) (z : ℤ) → SFits w z → (z ≡ pos 0 → ⊥) → zero < of_z w z
nonzero w (pos zero) f h = absurd (h refl)
nonzero w (pos (suc n)) f h = omega arith
nonzero w (negsuc n) f h = omega (arith, f.sfits, pow-bits w)

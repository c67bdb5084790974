-- The wrap of an integer to a range of two's complement: `wrap (2 ^ 43)` is the signed value of the low 44 bits.
use Rattle.std.specs.Prelude.{◌≡◌, ℕ, zero, ◌+◌, ◌*◌, ◌-◌, ◌^◌, ◌<◌, ◌≤◌, ℤ, pos, ◌+ℤ◌, ◌-ℤ◌}
use Rattle.std.proofs.Common.{arith, add-mul, mul-add, mul_assoc, mul_comm, pow_pos}
use Rattle.std.specs.Int.Signed.{shr_z}
use Rattle.std.specs.Int.{Width}
use mir.Val.{SFits, hbits}
use Rattle.integers.specs.Parts.{pos_part, neg_part, parts_add, parts_sub, Mag, zarith}
use Rattle.integers.specs.Floor.{mod_z, mod_below, mod_parts, mod_same, mod_unique}

-- z, wrapped to -h..h-1
unfoldable pub wrap : ℕ → ℤ → ℤ
wrap h z = pos (mod_z (z +ℤ pos h) (h + h)) -ℤ pos h

-- ---- it lies in its range, and differs from z by a multiple of 2 h: the facts to list for each wrap in the goal
pub wrap_high : (h : ℕ) (z : ℤ) → zero < h → pos_part (wrap h z) < neg_part (wrap h z) + h
unfolding pos_part neg_part wrap
wrap_high h z k = omega (arith, mod_below (z +ℤ pos h) (h + h) (omega arith), parts_sub (pos (mod_z (z +ℤ pos h) (h + h))) (pos h))

pub wrap_low : (h : ℕ) (z : ℤ) → zero < h → neg_part (wrap h z) ≤ pos_part (wrap h z) + h
unfolding pos_part neg_part wrap
wrap_low h z k = omega (arith, mod_below (z +ℤ pos h) (h + h) (omega arith), parts_sub (pos (mod_z (z +ℤ pos h) (h + h))) (pos h))

pub wrap_parts : (h : ℕ) (z : ℤ) → zero < h → pos_part z + neg_part (wrap h z) + neg_part (shr_z (z +ℤ pos h) (h + h)) * (h + h) ≡ pos_part (wrap h z) + neg_part z + pos_part (shr_z (z +ℤ pos h) (h + h)) * (h + h)
unfolding pos_part neg_part wrap
wrap_parts h z k = omega (arith, mod_parts (z +ℤ pos h) (h + h) (omega arith), parts_sub (pos (mod_z (z +ℤ pos h) (h + h))) (pos h), parts_add z (pos h))

-- the range as a bound, and as that of a machine integer
pub wrap_mag : (h : ℕ) (z : ℤ) → zero < h → Mag (wrap h z) h
wrap_mag h z k = omega (zarith, wrap_high h z k, wrap_low h z k)

pub wrap_sfits : (w : Width) (z : ℤ) → SFits w (wrap (2 ^ hbits w) z)
wrap_sfits w z = record { sfits = (wrap_mag (2 ^ hbits w) z (pow_pos (hbits w))).below }

-- ---- it is the only one: to show what a wrap is
pub wrap_unique : (h : ℕ) (z r q : ℤ) → pos_part r < neg_part r + h → neg_part r ≤ pos_part r + h → pos_part z + neg_part r + neg_part q * (h + h) ≡ pos_part r + neg_part z + pos_part q * (h + h) → wrap h z ≡ r
unfolding wrap pos_part neg_part
wrap_unique h z r q high low e =
    let n = pos_part r + h - neg_part r in
    let k : mod_z (z +ℤ pos h) (h + h) ≡ n = mod_unique (z +ℤ pos h) q (h + h) n (omega arith) (omega (arith, parts_add z (pos h))) in
    omega (zarith, parts_sub (pos (mod_z (z +ℤ pos h) (h + h))) (pos h))

-- the same at a multiple that is a difference of naturals
pub wrap_same : (h : ℕ) (z r : ℤ) (a b : ℕ) → pos_part r < neg_part r + h → neg_part r ≤ pos_part r + h → pos_part z + neg_part r + b * (h + h) ≡ pos_part r + neg_part z + a * (h + h) → wrap h z ≡ r
unfolding wrap pos_part neg_part
wrap_same h z r a b high low e =
    let n = pos_part r + h - neg_part r in
    let k : mod_z (z +ℤ pos h) (h + h) ≡ n = mod_same (z +ℤ pos h) (h + h) n a b (omega arith) (omega (arith, parts_add z (pos h))) in
    omega (zarith, parts_sub (pos (mod_z (z +ℤ pos h) (h + h))) (pos h))

-- ---- the three cases that code tests: in range, once too large, once too small
pub wrap_in : (h : ℕ) (z : ℤ) → pos_part z < neg_part z + h → neg_part z ≤ pos_part z + h → wrap h z ≡ z
wrap_in h z high low = wrap_same h z z 0 0 high low (omega arith)

pub wrap_over : (h : ℕ) (z : ℤ) → h + neg_part z ≤ pos_part z → pos_part z < neg_part z + (h + h + h) → wrap h z ≡ z -ℤ pos (h + h)
unfolding pos_part neg_part
wrap_over h z low high = let e = parts_sub z (pos (h + h)) in wrap_same h z (z -ℤ pos (h + h)) 1 0 (omega arith) (omega arith) (omega arith)

pub wrap_under : (h : ℕ) (z : ℤ) → pos_part z + h < neg_part z → neg_part z ≤ pos_part z + (h + h + h) → wrap h z ≡ z +ℤ pos (h + h)
unfolding pos_part neg_part
wrap_under h z high low = let e = parts_add z (pos (h + h)) in wrap_same h z (z +ℤ pos (h + h)) 0 1 (omega arith) (omega arith) (omega arith)

-- in range, from a bound
pub wrap_fits : (h : ℕ) {z : ℤ} → Mag z h → wrap h z ≡ z
wrap_fits h {z} m = wrap_in h z (omega zarith) (omega zarith)

-- ---- the low bits are all that a wrap sees, and all that it keeps
pub wrap_mod : (h : ℕ) (z : ℤ) → zero < h → wrap h (pos (mod_z z (h + h))) ≡ wrap h z
unfolding pos_part neg_part
wrap_mod h z k =
    let y = pos (mod_z z (h + h)) in
    let q = shr_z (z +ℤ pos h) (h + h) in
    let s = shr_z z (h + h) in
    wrap_same h y (wrap h z) (pos_part q + neg_part s) (neg_part q + pos_part s) (wrap_high h z k) (wrap_low h z k)
    (omega (arith, wrap_parts h z k, mod_parts z (h + h) (omega arith), add-mul (pos_part q) (neg_part s) (h + h), add-mul (neg_part q) (pos_part s) (h + h)))

pub mod_wrap : (h : ℕ) (z : ℤ) → zero < h → mod_z (wrap h z) (h + h) ≡ mod_z z (h + h)
mod_wrap h z k =
    let q = shr_z (z +ℤ pos h) (h + h) in
    let s = shr_z z (h + h) in
    mod_same (wrap h z) (h + h) (mod_z z (h + h)) (pos_part s + neg_part q) (neg_part s + pos_part q) (mod_below z (h + h) (omega arith))
    (omega (arith, wrap_parts h z k, mod_parts z (h + h) (omega arith), add-mul (pos_part s) (neg_part q) (h + h), add-mul (neg_part s) (pos_part q) (h + h)))

-- a wrap after a wider one is the narrower alone: 32 bits of the 44
pub wrap_wrap : (h n : ℕ) (z : ℤ) → zero < h → zero < h * n → wrap h (wrap (h * n) z) ≡ wrap h z
wrap_wrap h n z k j =
    let q = shr_z (z +ℤ pos h) (h + h) in
    let g = h * n in
    let s = shr_z (z +ℤ pos g) (g + g) in
    wrap_same h (wrap g z) (wrap h z) (pos_part q + neg_part s * n) (neg_part q + pos_part s * n) (wrap_high h z k) (wrap_low h z k)
    (omega (arith, wrap_parts h z k, wrap_parts g z j, add-mul (pos_part q) (neg_part s * n) (h + h), add-mul (neg_part q) (pos_part s * n) (h + h), wider (pos_part s), wider (neg_part s)))
  where
    wider : (a : ℕ) → a * (h * n + h * n) ≡ a * n * (h + h)
    wider a = simp (mul-add, mul_assoc) (simp (mul_comm))

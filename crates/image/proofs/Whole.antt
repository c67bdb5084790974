-- The parts of an image side by side are its bytes, and are read back.
use Prim.Native.Nat.{ℕ, ◌+◌, ◌*◌}
use native.Mathlib.Omega.{arith}
use mathlib.Core.List.{List, [], ◌++◌, append-nil}
use mathlib.Core.Path.{◌≡◌, sym, ◌∙◌}
use lib.ListN.{length, take, drop, length-append}
use lib.Seq.{take-append_seam, drop-append_seam}
use Rattle.gte_registers.specs.Registers.{view}
use Rattle.gte_registers.proofs.Taking.{view_long}
use Rattle.byte_order.specs.Bytes.{words_at, bytes_of, set_words}
use Rattle.byte_order.proofs.Rows.{set_append, set_all, read_append, length_words_at, words_back}

-- three rows written behind each other fill the image, whatever stood there
pub whole : (m a b d : List ℕ) (p q : ℕ) → 4 * length a ≡ p → p + 4 * length b ≡ q → length m ≡ q + 4 * length d → set_words (set_words (set_words m 0 a) p b) q d ≡ bytes_of (a ++ (b ++ d))
whole m a b d p q e f h =
    let n : length m ≡ 4 * length (a ++ (b ++ d)) = rw (length-append, length-append) (omega arith) in
    let z : p ≡ 0 + 4 * length a = omega arith in
    let s : set_words (set_words (set_words m 0 a) p b) q d ≡ set_words (set_words m 0 a) p (b ++ d) = rw (← f) (set_append (set_words m 0 a) p b d) in
    let u : set_words (set_words m 0 a) p (b ++ d) ≡ set_words m 0 (a ++ (b ++ d)) = rw z (set_append m 0 a (b ++ d)) in
    s ∙ u ∙ set_all m (a ++ (b ++ d)) n

pub image_bytes : (m r w s : List ℕ) → 4 * length r ≡ 128 → 128 + 4 * length w ≡ 176 → length m ≡ 432 → set_words (set_words (set_words m 0 r) 128 w) 176 (view s) ≡ bytes_of (r ++ (w ++ view s))
image_bytes m r w s e f h = whole m r w (view s) 128 176 e f (omega (arith, view_long s))

-- ---- and are read back
same_parts : (p q a b : List ℕ) → length p ≡ length a → p ++ q ≡ a ++ b → (p ≡ a) × (q ≡ b)
same_parts p q a b n e =
    let t : take (length p) (p ++ q) ≡ take (length a) (a ++ b) = rw (n, e) in
    let d : drop (length p) (p ++ q) ≡ drop (length a) (a ++ b) = rw (n, e) in
    (sym (take-append_seam p q) ∙ t ∙ take-append_seam a b, sym (drop-append_seam p q) ∙ d ∙ drop-append_seam a b)

-- words from a place on that are two rows, are those two rows
two_rows : (m : List ℕ) (at : ℕ) (a b : List ℕ) → words_at m at (length a + length b) ≡ a ++ b → (words_at m at (length a) ≡ a) × (words_at m (at + 4 * length a) (length b) ≡ b)
two_rows m at a b h =
    same_parts (words_at m at (length a)) (words_at m (at + 4 * length a) (length b)) a b (length_words_at m at (length a)) (sym (read_append m at (length a) (length b)) ∙ h)

all_back : (ws : List ℕ) → words_at (bytes_of ws) 0 (length ws) ≡ ws
all_back ws = rw append-nil at (words_back ws [])

pub record Back (m a b d : List ℕ) (p q : ℕ) : Type 0 where
  pub first : words_at m 0 (length a) ≡ a
  pub second : words_at m p (length b) ≡ b
  pub third : words_at m q (length d) ≡ d

pub back : (a b d : List ℕ) (p q : ℕ) → 4 * length a ≡ p → p + 4 * length b ≡ q → Back (bytes_of (a ++ (b ++ d))) a b d p q
back a b d p q e f =
    let m = bytes_of (a ++ (b ++ d)) in
    let n : length (a ++ (b ++ d)) ≡ length a + length (b ++ d) = length-append a (b ++ d) in
    let k : length (b ++ d) ≡ length b + length d = length-append b d in
    let x = two_rows m 0 a (b ++ d) (rw n at (all_back (a ++ (b ++ d)))) in
    let z : 0 + 4 * length a ≡ p = omega arith in
    let s : words_at m p (length b + length d) ≡ b ++ d = rw (z, k) at x.1 in
    let y = two_rows m p b d s in
    record { first = x.0; second = y.0; third = rw f at y.1 }

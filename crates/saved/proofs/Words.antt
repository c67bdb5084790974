-- Words in a part of a list of bytes.
use mathlib.Core.List.{List, [], ◌∷◌, ◌++◌}
use mathlib.Core.Path.{◌≡◌, refl, ap, sym, ◌∙◌}
use Prim.Native.Nat.{ℕ, zero, suc, ◌+◌, ◌*◌, ◌<◌, ◌≤◌}
use native.Mathlib.Omega.{arith}
use lib.ListN.{length, get_or, take, drop, get_or-append, length-drop, take-append-drop}
use lib.Seq.{get_or-drop, length-take-le}
use Rattle.byte_order.specs.Bytes.{word_at, words_at, bytes_of}
use Rattle.byte_order.proofs.Rows.{bytes_back, word_below}
use Rattle.saved_format.specs.Format.{Bytes}
use Rattle.saved_format.proofs.Bytes.{bytes_take, bytes_drop}

-- bytes that are the same are the same words
pub words_same : (f g : List ℕ) (a b n : ℕ) → ((i : ℕ) → i < 4 * n → get_or f (a + i) 0 ≡ get_or g (b + i) 0) → words_at f a n ≡ words_at g b n
unfolding words_at word_at
words_same f g a b zero h = refl
words_same f g a b (suc n) h =
    let p : a + 0 ≡ a = omega arith in
    let q : b + 0 ≡ b = omega arith in
    let x : get_or f a 0 ≡ get_or g b 0 = rw (p, q) at (h 0 (omega arith)) in
    let r = words_same f g (a + 4) (b + 4) n (λ i l. let s : a + 4 + i ≡ a + (4 + i) = omega arith in let t : b + 4 + i ≡ b + (4 + i) = omega arith in rw (s, t) (h (4 + i) (omega arith))) in
    rw (x, h 1 (omega arith), h 2 (omega arith), h 3 (omega arith), r)

pub words_part : (f c t : List ℕ) (at n : ℕ) → drop at f ≡ c ++ t → 4 * n ≤ length c → words_at f at n ≡ words_at c 0 n
words_part f c t at n e h =
    words_same f c at 0 n (λ i l. let z : 0 + i ≡ i = omega arith in
    sym (get_or-drop at f i 0) ∙ ap (λ (x : List ℕ). get_or x i 0) e ∙ get_or-append c t 0 i (omega arith) ∙ ap (λ (k : ℕ). get_or c k 0) (sym z))

pub bytes_of_append : (a b : List ℕ) → bytes_of (a ++ b) ≡ bytes_of a ++ bytes_of b
unfolding bytes_of
bytes_of_append [] b = refl
bytes_of_append (w ∷ a) b = rw (bytes_of_append a b)

-- the bytes of n words of a list of bytes are a part of it
pub bytes_part : (f : List ℕ) (at n k : ℕ) → Bytes (take k (drop at f)) → k ≡ 4 * n → k ≤ length (drop at f) → bytes_of (words_at f at n) ≡ take k (drop at f)
bytes_part f at n k b e h =
    let l = length-take-le k (drop at f) h in
    ap bytes_of (words_part f (take k (drop at f)) (drop k (drop at f)) at n (sym (take-append-drop k (drop at f))) (omega arith))
    ∙ bytes_back n (take k (drop at f)) b.below (omega arith)

pub words_below : (f : List ℕ) (at n : ℕ) → Bytes f → (i : ℕ) → get_or (words_at f at n) i 0 < 4294967296
unfolding words_at
words_below f at zero b i = omega arith
words_below f at (suc n) b zero = word_below f at b.below
words_below f at (suc n) b (suc i) = words_below f (at + 4) n b i

-- the two rows of an image are the bytes that they stand in
pub record Rows (image : List ℕ) : Type 0 where
  pub control : bytes_of (words_at image 0 44) ≡ take 176 image
  pub geometry : bytes_of (words_at image 176 64) ≡ take 256 (drop 176 image)

pub rows : (image : List ℕ) → Bytes image → length image ≡ 432 → Rows image
rows image b h =
    let d = length-drop 176 image in
    record {
      control = bytes_part image 0 44 176 (bytes_take 176 image b) (omega arith) (omega arith);
      geometry = bytes_part image 176 64 256 (bytes_take 256 (drop 176 image) (bytes_drop 176 image b)) (omega arith) (omega arith);
    }

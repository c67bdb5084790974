-- Where the parts of a machine stand in its file.
use mathlib.Core.List.{List, [], ◌++◌, append-nil}
use mathlib.Core.Path.{◌≡◌, refl, ap, sym, ◌∙◌}
use Prim.Native.Nat.{ℕ, ◌*◌, ◌+◌, ◌≤◌}
use native.Mathlib.Omega.{arith}
use lib.ListN.{length, take, drop, length-append, length-drop, get_or, get_or-append}
use lib.Seq.{drop-drop, take_at, drop_at, sets, sets-eq, length-take-le, get_or-drop}
use Rattle.byte_order.specs.Bytes.{words_at, bytes_of}
use Rattle.saved_format.specs.Format.{Bytes, field, Machine, Means}
use Rattle.saved_format.specs.Writing.{full_blocks, blocks_of, ram_in, blocks_length, file_of, file_length}
use Rattle.saved_format.proofs.Blocks.{blocks_some, blocks_of_lem, blocks_long, ram_in_lem}
use Rattle.saved_format.proofs.Theorems.{content_words, long}
use Rattle.saved_copy.proofs.Blocks.{filled, onward}
use Rattle.saved.specs.Save.{machine_in}
use Rattle.saved.specs.Load.{image_of}
use Rattle.saved.specs.Parts.{fields_of, image_in, pad_in}
use Rattle.saved.proofs.Words.{words_same, words_part, bytes_of_append, rows}

-- ---- a file's machine
past : (tag at n : ℕ) (f c t : List ℕ) → drop at f ≡ field tag c ++ t → length c ≡ n → drop (at + (3 + n)) f ≡ t
past tag at n f c t e h = sym (drop-drop (3 + n) at f) ∙ ap (drop (3 + n)) e ∙ drop_at (field tag c) t (3 + n) (omega arith)

content : (tag at : ℕ) (f c t : List ℕ) → drop at f ≡ field tag c ++ t → drop (at + 3) f ≡ c ++ t
content tag at f c t e = sym (drop-drop 3 at f) ∙ ap (drop 3) e

module _ (f : List ℕ) (m : Machine) (s : Means f m) where
  at_control : drop 3 f ≡ s.control ++ (field 2 s.geometry ++ (s.blocks ++ (field 4 m.pad ++ field 0 [])))
  at_control = ap (drop 3) s.fields

  at_179 : drop 179 f ≡ field 2 s.geometry ++ (s.blocks ++ (field 4 m.pad ++ field 0 []))
  at_179 = past 1 0 176 f s.control _ s.fields s.control_long

  at_geometry : drop 182 f ≡ s.geometry ++ (s.blocks ++ (field 4 m.pad ++ field 0 []))
  at_geometry = content 2 179 f s.geometry _ at_179

  pub at_blocks : drop 438 f ≡ s.blocks ++ (field 4 m.pad ++ field 0 [])
  at_blocks = past 2 179 256 f s.geometry _ at_179 s.geometry_long

  at_pad : drop (441 + blocks_length (length m.ram)) f ≡ m.pad ++ field 0 []
  at_pad =
      let n = blocks_length (length m.ram) in
      let e : 441 + n ≡ 438 + n + 3 = omega arith in
      ap (λ (k : ℕ). drop k f) e
      ∙ content 4 (438 + n) f m.pad (field 0 []) (sym (drop-drop n 438 f) ∙ ap (drop n) at_blocks ∙ drop_at s.blocks (field 4 m.pad ++ field 0 []) n (blocks_long s.ram_blocks))

  -- the words of the file's image
  image_parts : image_of m ≡ s.control ++ s.geometry
  image_parts = bytes_of_append m.control m.geometry ∙ rw (s.control_words, s.geometry_words, (content_words f m s).0, (content_words f m s).1)

  first_words : (at n : ℕ) → at + 4 * n ≤ 176 → words_at f (3 + at) n ≡ words_at (image_of m) at n
  first_words at n h =
      words_same f (s.control ++ s.geometry) (3 + at) at n (λ i l. let z : 3 + at + i ≡ 3 + (at + i) = omega arith in
      rw z (sym (get_or-drop 3 f (at + i) 0) ∙ ap (λ (x : List ℕ). get_or x (at + i) 0) at_control
      ∙ get_or-append s.control _ 0 (at + i) (omega (arith, s.control_long)) ∙ sym (get_or-append s.control s.geometry 0 (at + i) (omega (arith, s.control_long)))))
      ∙ ap (λ (x : List ℕ). words_at x at n) (sym image_parts)

  pub registers_are : words_at f 3 32 ≡ words_at (image_of m) 0 32
  registers_are = first_words 0 32 (omega arith)

  pub control_is : words_at f 131 12 ≡ words_at (image_of m) 128 12
  control_is = first_words 128 12 (omega arith)

  pub geometry_is : words_at f 182 64 ≡ words_at (image_of m) 176 64
  geometry_is =
      words_part f s.geometry _ 182 64 at_geometry (omega (arith, s.geometry_long))
      ∙ sym (words_part (s.control ++ s.geometry) s.geometry [] 176 64 (drop_at s.control s.geometry 176 s.control_long ∙ sym (append-nil s.geometry)) (omega (arith, s.geometry_long)))
      ∙ ap (λ (x : List ℕ). words_at x 176 64) (sym image_parts)

  pub image_is : image_in f ≡ image_of m
  unfolding image_in
  image_is =
      let x : take 176 (drop 3 f) ≡ s.control = ap (take 176) at_control ∙ take_at s.control _ 176 s.control_long in
      let y : take 256 (drop 182 f) ≡ s.geometry = ap (take 256) at_geometry ∙ take_at s.geometry _ 256 s.geometry_long in
      ap (λ (l : List ℕ). l ++ take 256 (drop 182 f)) x ∙ ap (λ (l : List ℕ). s.control ++ l) y ∙ sym image_parts

  pub ram_is : (n : ℕ) → length m.ram ≡ n → ram_in (full_blocks n) n (drop 438 f) ≡ m.ram
  ram_is n e =
      ap (λ (k : ℕ). ram_in (full_blocks k) k (drop 438 f)) (sym e) ∙ ap (ram_in (full_blocks (length m.ram)) (length m.ram)) at_blocks ∙ ram_in_lem s.ram_blocks _

  pub pad_is : (n : ℕ) → length m.ram ≡ n → pad_in n f ≡ m.pad
  unfolding pad_in
  pad_is n e =
      ap (λ (k : ℕ). take 1024 (drop (441 + blocks_length k) f)) (sym e) ∙ ap (take 1024) at_pad ∙ take_at m.pad (field 0 []) 1024 s.pad_long

  -- the file's length tells its RAM's
  pub same_ram : (n : ℕ) → 1 ≤ n → length f ≡ file_length n → length m.ram ≡ n
  same_ram n h e = omega (arith, long f m s, blocks_some s.ram_blocks)

  pub other_ram : (n : ℕ) → (length f ≡ file_length n → ⊥) → length m.ram ≡ n → ⊥
  other_ram n h e = h (long f m s ∙ ap file_length e)

  pub not_short : 1472 ≤ length f
  not_short = omega (arith, long f m s, blocks_some s.ram_blocks)

-- ---- a machine's file
-- one more part behind those that are stored
behind : (s s₁ s₂ a b : List ℕ) (at i : ℕ) → s₁ ≡ sets s at a → s₂ ≡ sets s₁ i b → at + length a ≡ i → s₂ ≡ sets s at (a ++ b)
behind s s₁ s₂ a b at i p q h = q ∙ ap (λ (x : List ℕ). sets x i b) p ∙ ap (λ (n : ℕ). sets (sets s at a) n b) (sym h) ∙ onward s at a b (length a) refl

pub fields_are : (image ram pad : List ℕ) → Bytes image → length image ≡ 432 → fields_of image ram pad ≡ file_of (machine_in image ram pad)
unfolding fields_of file_of
fields_are image ram pad b h =
    let r = rows image b h in
    let t : List ℕ = blocks_of (full_blocks (length ram)) ram ++ (field 4 pad ++ field 0 []) in
    ap (λ (l : List ℕ). field 1 l ++ (field 2 (take 256 (drop 176 image)) ++ t)) (sym r.control)
    ∙ ap (λ (l : List ℕ). field 1 (bytes_of (words_at image 0 44)) ++ (field 2 l ++ t)) (sym r.geometry)

pub fields_long : (image ram pad : List ℕ) → length image ≡ 432 → 1 ≤ length ram → length pad ≡ 1024 → length (fields_of image ram pad) ≡ file_length (length ram)
unfolding fields_of
fields_long image ram pad h k l =
    let d = length-drop 176 image in
    let a = length-take-le 176 image (omega arith) in
    let b = length-take-le 256 (drop 176 image) (omega arith) in
    let t = blocks_of (full_blocks (length ram)) ram in
    let e = blocks_long (blocks_of_lem ram k) in
    let x = length-append (take 176 image) (field 2 (take 256 (drop 176 image)) ++ (t ++ (field 4 pad ++ field 0 []))) in
    let y = length-append (take 256 (drop 176 image)) (t ++ (field 4 pad ++ field 0 [])) in
    let z = length-append t (field 4 pad ++ field 0 []) in
    let w = length-append pad (field 0 []) in
    omega arith

pub file_long : (image ram pad : List ℕ) → Bytes image → length image ≡ 432 → 1 ≤ length ram → length pad ≡ 1024 → length (file_of (machine_in image ram pad)) ≡ file_length (length ram)
file_long image ram pad b h k l = ap length (sym (fields_are image ram pad b h)) ∙ fields_long image ram pad h k l

-- the file over the front of the space
pub over : (space l : List ℕ) (n : ℕ) → length l ≡ n → n ≤ length space → sets space 0 l ≡ l ++ drop n space
over space l n e h = sets-eq l space 0 (omega arith) ∙ ap (λ (k : ℕ). l ++ drop k space) (let z : 0 + length l ≡ n = omega arith in z)

pub pad_filled : (m m₁ f : List ℕ) (at n k : ℕ) → at ≡ 441 + blocks_length n → k ≡ 1024 → length m ≡ 1024 → file_length n ≤ length f → m₁ ≡ sets m 0 (take k (drop at f)) → m₁ ≡ pad_in n f
unfolding pad_in
pad_filled m m₁ f at n k e d h g is =
    let l = length-drop at f in
    let t = length-take-le k (drop at f) (omega arith) in
    is ∙ filled m (take k (drop at f)) (omega arith) ∙ ap (λ (x : ℕ). take x (drop at f)) d ∙ ap (λ (x : ℕ). take 1024 (drop x f)) e

-- ---- the five stores of a save
pub put_machine_is : (s s₁ s₂ s₃ s₄ s₅ image ram pad : List ℕ) (at : ℕ) → length image ≡ 432 → 1 ≤ length ram → length pad ≡ 1024 → at ≡ 438 + blocks_length (length ram)
    → s₁ ≡ sets s 0 (field 1 (take 176 image)) → s₂ ≡ sets s₁ 179 (field 2 (take 256 (drop 176 image))) → s₃ ≡ sets s₂ 438 (blocks_of (full_blocks (length ram)) ram)
    → s₄ ≡ sets s₃ at (field 4 pad) → s₅ ≡ sets s₄ (at + 1027) (field 0 []) → s₅ ≡ sets s 0 (fields_of image ram pad)
unfolding fields_of
put_machine_is s s₁ s₂ s₃ s₄ s₅ image ram pad at h k l e p₁ p₂ p₃ p₄ p₅ =
    let d = length-drop 176 image in
    let a = length-take-le 176 image (omega arith) in
    let b = length-take-le 256 (drop 176 image) (omega arith) in
    let c = blocks_long (blocks_of_lem ram k) in
    let t = field 4 pad ++ field 0 [] in
    let u = blocks_of (full_blocks (length ram)) ram ++ t in
    let q₄ = behind s₃ s₄ s₅ (field 4 pad) (field 0 []) at (at + 1027) p₄ p₅ (omega arith) in
    let q₃ = behind s₂ s₃ s₅ (blocks_of (full_blocks (length ram)) ram) t 438 at p₃ q₄ (omega arith) in
    let q₂ = behind s₁ s₂ s₅ (field 2 (take 256 (drop 176 image))) u 179 438 p₂ q₃ (omega arith) in
    behind s s₁ s₅ (field 1 (take 176 image)) (field 2 (take 256 (drop 176 image)) ++ u) 0 179 p₁ q₂ (omega arith)

pub image_taken : (m m₁ m₂ f : List ℕ) → m₁ ≡ sets m 0 (take 176 (drop 3 f)) → m₂ ≡ sets m₁ 176 (take 256 (drop 182 f)) → length m ≡ 432 → 438 ≤ length f → m₂ ≡ image_in f
unfolding image_in
image_taken m m₁ m₂ f p q h k =
    let a = length-drop 3 f in
    let b = length-drop 182 f in
    let c = length-take-le 176 (drop 3 f) (omega arith) in
    let d = length-take-le 256 (drop 182 f) (omega arith) in
    let l = length-append (take 176 (drop 3 f)) (take 256 (drop 182 f)) in
    behind m m₁ m₂ (take 176 (drop 3 f)) (take 256 (drop 182 f)) 0 176 p q (omega arith) ∙ filled m _ (omega arith)

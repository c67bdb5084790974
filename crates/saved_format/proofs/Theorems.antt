-- The theorems of specs/Theorems.antt.
use mathlib.Core.List.{List, [], ◌∷◌, ◌++◌, append-nil}
use mathlib.Core.Path.{◌≡◌, refl, ap, sym, ◌∙◌}
use Prim.Native.Nat.{ℕ, suc, ◌/◌, ◌%◌, ◌<◌}
use native.Mathlib.Omega.{arith}
use lib.ListN.{length, get_or, length-append}
use Rattle.byte_order.specs.Bytes.{words_at, bytes_of}
use Rattle.byte_order.proofs.Rows.{length_bytes_of, words_back, bytes_back}
use Rattle.saved_format.specs.Format.{Bytes, field, Machine, machine, Means}
use Rattle.saved_format.specs.Writing.{full_blocks, blocks_of, file_of}
use Rattle.saved_format.specs.Theorems.{SameBytes, OneMeaning, RoundTrip, Long, OneNumber}
use Rattle.saved_format.proofs.Bytes.{bytes_none, bytes_one, bytes_append, bytes_content, bytes_rest, bytes_field}
use Rattle.saved_format.proofs.Fields.{field_once}
use Rattle.saved_format.proofs.Blocks.{blocks_are, blocks_of_lem, blocks_bytes, blocks_long, blocks_once}

-- ---- words and bytes
pub words_all : (ws : List ℕ) → words_at (bytes_of ws) 0 (length ws) ≡ ws
words_all ws = rw append-nil at (words_back ws [])

bytes_words : (ws : List ℕ) → ((i : ℕ) → get_or ws i 0 < 4294967296) → Bytes (bytes_of ws)
unfolding bytes_of
bytes_words [] h = bytes_none
bytes_words (w ∷ ws) h =
    let k : w < 4294967296 = h 0 in
    bytes_one (w % 256) (omega arith) (bytes_one (w / 256 % 256) (omega arith) (bytes_one (w / 65536 % 256) (omega arith) (bytes_one (w / 16777216) (omega arith) (bytes_words ws (λ i. h (suc i))))))

-- ---- a file is the file of its meaning
pub content_words : (f : List ℕ) (m : Machine) (s : Means f m) → (bytes_of (words_at s.control 0 44) ≡ s.control) × (bytes_of (words_at s.geometry 0 64) ≡ s.geometry)
content_words f m s =
    let b = rw s.fields at s.bytes in (
      bytes_back 44 s.control (bytes_content 1 s.control _ b).below (omega (arith, s.control_long)),
      bytes_back 64 s.geometry (bytes_content 2 s.geometry _ (bytes_rest 1 s.control _ b)).below (omega (arith, s.geometry_long)),
    )

pub file_is : (f : List ℕ) (m : Machine) → Means f m → f ≡ file_of m
unfolding file_of
file_is f m s =
    let w = content_words f m s in
    s.fields ∙ rw (s.control_words, s.geometry_words, w.0, w.1, blocks_are s.ram_blocks)

pub same_bytes : SameBytes
same_bytes f g m s t = file_is f m s ∙ sym (file_is g m t)

pub whole : (m n : Machine) → m.control ≡ n.control → m.geometry ≡ n.geometry → m.ram ≡ n.ram → m.pad ≡ n.pad → m ≡ n
whole m n c g r p = ap (λ (x : List ℕ). machine x m.geometry m.ram m.pad) c
    ∙ ap (λ (x : List ℕ). machine n.control x m.ram m.pad) g
    ∙ ap (λ (x : List ℕ). machine n.control n.geometry x m.pad) r
    ∙ ap (λ (x : List ℕ). machine n.control n.geometry n.ram x) p

pub one_meaning : OneMeaning
one_meaning f m n s t =
    let a = field_once 1 s.control t.control _ _ (sym s.fields ∙ t.fields) in
    let b = field_once 2 s.geometry t.geometry _ _ a.rest in
    let o = blocks_once s.ram_blocks t.ram_blocks _ _ refl refl b.rest in
    let p = field_once 4 m.pad n.pad _ _ o.1 in
    let c : m.control ≡ n.control = s.control_words ∙ rw a.content (sym t.control_words) in
    let g : m.geometry ≡ n.geometry = s.geometry_words ∙ rw b.content (sym t.geometry_words) in
    let r : m.ram ≡ n.ram = o.0 in
    let q : m.pad ≡ n.pad = p.content in
    whole m n c g r q

pub round_trip : RoundTrip
unfolding file_of
round_trip m h =
    let c = bytes_of m.control in
    let g = bytes_of m.geometry in
    let lc : length c ≡ 176 = omega (arith, length_bytes_of m.control, h.control_long) in
    let lg : length g ≡ 256 = omega (arith, length_bytes_of m.geometry, h.geometry_long) in
    record {
      control = c;
      geometry = g;
      blocks = blocks_of (full_blocks (length m.ram)) m.ram;
      bytes =
          bytes_append (field 1 c) (bytes_field 1 c (omega arith) (omega arith) (bytes_words m.control h.control_words))
          (bytes_append (field 2 g) (bytes_field 2 g (omega arith) (omega arith) (bytes_words m.geometry h.geometry_words))
          (bytes_append (blocks_of (full_blocks (length m.ram)) m.ram) (blocks_bytes m.ram h.ram_bytes)
          (bytes_append (field 4 m.pad) (bytes_field 4 m.pad (omega arith) (omega (arith, h.pad_long)) h.pad_bytes) (bytes_field 0 [] (omega arith) (omega arith) bytes_none))));
      fields = refl;
      control_long = lc;
      geometry_long = lg;
      pad_long = h.pad_long;
      control_words = sym (rw h.control_long at (words_all m.control));
      geometry_words = sym (rw h.geometry_long at (words_all m.geometry));
      ram_blocks = blocks_of_lem m.ram h.ram_some;
    }

pub long : Long
long f m s =
    let b = blocks_long s.ram_blocks in
    let p = length-append s.blocks (field 4 m.pad ++ field 0 []) in
    let q = length-append m.pad (field 0 []) in
    let c = length-append s.control (field 2 s.geometry ++ (s.blocks ++ (field 4 m.pad ++ field 0 []))) in
    let g = length-append s.geometry (s.blocks ++ (field 4 m.pad ++ field 0 [])) in
    omega (arith, ap length s.fields, s.control_long, s.geometry_long, s.pad_long)

pub one_number : OneNumber
one_number f a b p q =
    let r = p.1 in
    let s = q.1 in
    omega (arith, r.most s.reached.0 b s.reached.1 s.reached.2, s.most r.reached.0 a r.reached.1 r.reached.2)

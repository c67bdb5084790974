-- The tail from a file's first byte is a well-formed file.
use mathlib.Core.List.{List, [], ◌∷◌, ◌++◌}
use mathlib.Core.Path.{◌≡◌, refl, ◌∙◌}
use Prim.Native.Nat.{ℕ, ◌<◌, ◌≤◌}
use native.Mathlib.Omega.{arith}
use lib.ListN.{length}
use Rattle.byte_order.specs.Bytes.{words_at}
use Rattle.saved_format.specs.Format.{Bytes, field, machine, WellFormedFile, MalformedFile}
use Rattle.saved_format.specs.Tails.{Content, Stops, End, File}
use Rattle.saved_format.proofs.Tails.{stops_as}
use Rattle.saved_format.proofs.Bytes.{bytes_append, bytes_left, bytes_right, bytes_content, bytes_rest, bytes_field, bytes_none}

pub content : (n : ℕ) (c : List ℕ) → length c ≡ n → Bytes c → Content n n c
content n c e b = record { least = omega arith; most = omega arith; bytes = b }

pub to_file : (f : List ℕ) → WellFormedFile f → File f
to_file f w =
    let m = w.0 in
    let s = w.1 in
    let g = s.geometry in
    let c = s.control in
    let pad = field 4 m.pad ++ field 0 [] in
    let b : Bytes (field 1 c ++ (field 2 g ++ (s.blocks ++ pad))) = rw s.fields at s.bytes in
    let b₁ = bytes_rest 1 c _ b in
    let b₂ = bytes_rest 2 g _ b₁ in
    let b₃ = bytes_right s.blocks pad b₂ in
    record {
      content = c;
      rest = field 2 g ++ (s.blocks ++ pad);
      fits = content 176 c s.control_long (bytes_content 1 c _ b);
      is = s.fields;
      follows = record {
        content = g;
        rest = s.blocks ++ pad;
        fits = content 256 g s.geometry_long (bytes_content 2 g _ b₁);
        is = refl;
        follows = record {
          blocks = s.blocks;
          ram = m.ram;
          rest = pad;
          bytes = bytes_left s.blocks pad b₂;
          is = refl;
          parts = s.ram_blocks;
          follows = record {
            content = m.pad;
            rest = field 0 [];
            fits = content 1024 m.pad s.pad_long (bytes_content 4 m.pad _ b₃);
            is = refl;
            follows = record { content = []; rest = []; fits = content 0 [] refl bytes_none; is = refl; follows = refl };
          };
        };
      };
    }

empty : (c : List ℕ) → length c ≤ 0 → c ≡ []
empty [] h = refl
empty (x ∷ c) h = absurd (omega arith)

end_is : (l : List ℕ) → End l → l ≡ field 0 []
end_is l e = e.is ∙ rw (empty e.content e.fits.most, e.follows)

exactly : (n : ℕ) (c : List ℕ) → Content n n c → length c ≡ n
exactly n c h = omega (arith, h.least, h.most)

field_bytes : (tag n : ℕ) (c : List ℕ) → tag < 256 → n < 65536 → Content n n c → Bytes (field tag c)
field_bytes tag n c h k f = bytes_field tag c h (omega (arith, f.most)) f.bytes

pub from_file : (f : List ℕ) → File f → WellFormedFile f
from_file f a =
    let c = a.content in
    let b = a.follows in
    let g = b.content in
    let r = b.follows in
    let p = r.follows in
    let e = end_is p.rest p.follows in
    let is : f ≡ field 1 c ++ (field 2 g ++ (r.blocks ++ (field 4 p.content ++ field 0 []))) = a.is ∙ rw (b.is, r.is, p.is, e) in
    let bytes : Bytes (field 1 c ++ (field 2 g ++ (r.blocks ++ (field 4 p.content ++ field 0 [])))) =
    bytes_append (field 1 c) (field_bytes 1 176 c (omega arith) (omega arith) a.fits)
    (bytes_append (field 2 g) (field_bytes 2 256 g (omega arith) (omega arith) b.fits)
    (bytes_append r.blocks r.bytes
    (bytes_append (field 4 p.content) (field_bytes 4 1024 p.content (omega arith) (omega arith) p.fits) (bytes_field 0 [] (omega arith) (omega arith) bytes_none)))) in (
      machine (words_at c 0 44) (words_at g 0 64) r.ram p.content,
      record {
        control = c;
        geometry = g;
        blocks = r.blocks;
        bytes = rw is bytes;
        fields = is;
        control_long = exactly 176 c a.fits;
        geometry_long = exactly 256 g b.fits;
        pad_long = exactly 1024 p.content p.fits;
        control_words = refl;
        geometry_words = refl;
        ram_blocks = r.parts;
      },
    )

-- the number of a file, by its tail
pub file_stops : (f : List ℕ) (n : ℕ) → Stops File f n → MalformedFile f n
file_stops f n s = let t = stops_as File WellFormedFile f n from_file to_file s in (t.none, t.longest)

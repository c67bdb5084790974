-- Writing then reading, and reading then writing.
use mathlib.Core.Bool.{Bool, true, false, cond}
use mathlib.Core.List.{List, [], ◌++◌, append-nil}
use mathlib.Core.Path.{◌≡◌, refl, ap, sym, ◌∙◌}
use Prim.Native.Nat.{ℕ, ◌≤◌}
use native.Mathlib.Omega.{arith}
use lib.Dec.{eqb, leb}
use lib.ListN.{length, take, drop, length-append, length-drop, take-append-drop}
use lib.Seq.{take_at, take_all, drop_at}
use borrow.Author.Tests.{eq-eqb, le-leb}
use Rattle.byte_order.specs.Bytes.{words_at, bytes_of}
use Rattle.byte_order.proofs.Rows.{length_bytes_of, length_words_at, words_back}
use Rattle.memory.specs.Addresses.{ram_length}
use Rattle.image.specs.Formed.{well_formed}
use Rattle.image.specs.Refusals.{first_of}
use Rattle.image.proofs.Refusals.{all_pass}
use Rattle.saved_format.specs.Format.{Bytes, Machine, Means}
use Rattle.saved_format.specs.Writing.{file_of}
use Rattle.saved_format.proofs.Theorems.{file_is, round_trip, words_all, whole}
use Rattle.saved.specs.Refusals.{length_tests, length_code}
use Rattle.saved.specs.Save.{machine_in, Saved, saved, save_code, save_of}
use Rattle.saved.specs.Load.{Loaded, loaded, image_of, load_code, load_of, Loads, means}
use Rattle.saved.proofs.Words.{bytes_of_append, words_part, rows}
use Rattle.saved.proofs.Calls.{lent}
use Rattle.saved_laws.specs.Calls.{Back, Again, SameFile}
use Rattle.saved_laws.proofs.Saves.{done, sized}
use Rattle.saved_laws.proofs.Loads.{outcome_of_lem, took, image_long}

-- ---- writing then reading
image_back : (image ram pad : List ℕ) → Bytes image → length image ≡ 432 → image_of (machine_in image ram pad) ≡ image
image_back image ram pad b h =
    let d = length-drop 176 image in
    let r = rows image b h in
    bytes_of_append (words_at image 0 44) (words_at image 176 64)
    ∙ ap (λ (l : List ℕ). l ++ bytes_of (words_at image 176 64)) r.control
    ∙ ap (λ (l : List ℕ). take 176 image ++ l) (r.geometry ∙ take_all 256 (drop 176 image) (omega arith))
    ∙ take-append-drop 176 image

-- a file whose image is well formed is loaded into buffers of the right lengths
loads : (m : Machine) (image ram pad : List ℕ) → well_formed (image_of m) ≡ true → length m.ram ≡ length ram → loaded 0 0 (image_of m) m.ram m.pad ≡ load_of m image ram pad
unfolding load_of load_code first_of
loads m image ram pad f e = rw (f, eq-eqb (length m.ram) (length ram) e)

pub back : Back
back image ram pad space image' ram' pad' a b c z e g h =
    let d = done image ram pad space z in
    let l = lent _ _ _ d.lengths in
    let m = machine_in image ram pad in
    let s = round_trip m (sized image ram pad a b c l) in
    let i = image_back image ram pad a l.image_long in
    let f : take (save_of image ram pad space).number (save_of image ram pad space).space ≡ file_of m =
    rw d.is (take_at (file_of m) (drop (length (file_of m)) space) (length (file_of m)) refl) in
    let o : loaded 0 0 image ram pad ≡ load_of m image' ram' pad' =
    ap (λ (x : List ℕ). loaded 0 0 x ram pad) (sym i) ∙ loads m image' ram' pad' (rw i d.formed) (sym g) in
    let r : Loads (file_of m) image' ram' pad' (loaded 0 0 image ram pad) = means (rw (e, g, h) d.lengths) m s o in
    rw f (outcome_of_lem (file_of m) image' ram' pad' (loaded 0 0 image ram pad) r)

-- ---- reading then writing
machine_back : (file : List ℕ) (m : Machine) → Means file m → machine_in (image_of m) m.ram m.pad ≡ m
machine_back file m s =
    let c = ap length s.control_words ∙ length_words_at s.control 0 44 in
    let g = ap length s.geometry_words ∙ length_words_at s.geometry 0 64 in
    let b = bytes_of_append m.control m.geometry in
    let x : words_at (image_of m) 0 44 ≡ m.control = ap (λ (l : List ℕ). words_at l 0 44) b ∙ (rw c at (words_back m.control (bytes_of m.geometry))) in
    let k : length (bytes_of m.control) ≡ 176 = omega (arith, length_bytes_of m.control) in
    let n : 256 ≤ length (bytes_of m.geometry) = omega (arith, length_bytes_of m.geometry) in
    let d : drop 176 (image_of m) ≡ bytes_of m.geometry ++ [] =
    ap (drop 176) b ∙ drop_at (bytes_of m.control) (bytes_of m.geometry) 176 k ∙ sym (append-nil (bytes_of m.geometry)) in
    let y : words_at (image_of m) 176 64 ≡ m.geometry =
    words_part (image_of m) (bytes_of m.geometry) [] 176 64 d n ∙ (rw g at (words_all m.geometry)) in
    whole (machine_in (image_of m) m.ram m.pad) m x y refl refl

saved_by : (b : Bool) (f space : List ℕ) (code : ℕ) → code ≡ cond b 0 8 → cond (eqb code 0) (saved 0 (length f) (f ++ drop (length f) space)) (saved code 0 space) ≡ cond b (saved 0 (length f) (f ++ drop (length f) space)) (saved 8 0 space)
saved_by true f space code e = rw e
saved_by false f space code e = rw e

save_code_lem : (file : List ℕ) (m : Machine) (space : List ℕ) → Means file m → ram_length (length m.ram) ≡ true → well_formed (image_of m) ≡ true
    → save_code (image_of m) m.ram m.pad space ≡ cond (leb (length file) (length space)) 0 8
unfolding save_code first_of
save_code_lem file m space s r f =
    rw (eq-eqb (length (image_of m)) 432 (image_long file m s), r, eq-eqb (length m.pad) 1024 s.pad_long, f, machine_back file m s, ← file_is file m s)

saves : (file : List ℕ) (m : Machine) (space : List ℕ) → Means file m → ram_length (length m.ram) ≡ true → well_formed (image_of m) ≡ true
    → save_of (image_of m) m.ram m.pad space ≡ cond (leb (length file) (length space)) (saved 0 (length file) (file ++ drop (length file) space)) (saved 8 0 space)
unfolding save_of
saves file m space s r f =
    rw (machine_back file m s, ← file_is file m s) (saved_by (leb (length file) (length space)) file space (save_code (image_of m) m.ram m.pad space) (save_code_lem file m space s r f))

pub again : Again
unfolding length_code
again file image ram pad space o l z =
    let t = took file image ram pad o l z in
    let p = all_pass 6 (length_tests (length image) (length ram) (length pad) []) refl t.lent in
    rw t.is (saves file t.machine space t.meaning (ap ram_length t.long ∙ p.1.0) t.formed)

-- ---- the same meaning
fits : (f g image ram pad : List ℕ) (o : Loaded) → Loads f image ram pad o → o.code ≡ 0 → length f ≤ length g
    → save_of o.image o.ram o.pad g ≡ saved 0 (length f) (f ++ drop (length f) g)
fits f g image ram pad o l z h = again f image ram pad g o l z ∙ rw (le-leb _ _ h)

pub same_file : SameFile
same_file f g image ram pad image' ram' pad' o p l k y z a b c =
    let n = length-append f g in
    let x = fits f (f ++ g) image ram pad o l y (omega arith) in
    let w = fits g (f ++ g) image' ram' pad' p k z (omega arith) in
    let e : saved 0 (length f) (f ++ drop (length f) (f ++ g)) ≡ saved 0 (length g) (g ++ drop (length g) (f ++ g)) = sym x ∙ rw (a, b, c) w in
    let i : length f ≡ length g = ap (λ (s : Saved). s.number) e in
    let j : f ++ drop (length f) (f ++ g) ≡ g ++ drop (length g) (f ++ g) = ap (λ (s : Saved). s.space) e in
    sym (take_at f (drop (length f) (f ++ g)) (length f) refl) ∙ ap (take (length f)) j ∙ take_at g (drop (length g) (f ++ g)) (length f) (sym i)

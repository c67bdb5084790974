-- What the answer of a save tells.
use mathlib.Core.Bool.{Bool, true, false, cond}
use mathlib.Core.List.{List, [], ◌∷◌, ◌++◌}
use mathlib.Core.Logic.{⊎_elim}
use mathlib.Core.Path.{◌≡◌, refl, sym, ◌∙◌}
use Prim.Native.Nat.{ℕ, ◌≤◌}
use native.Mathlib.Omega.{arith}
use lib.Dec.{eqb, leb}
use lib.ListN.{length, drop, length-append, length-drop}
use lib.Seq.{drop_at}
use borrow.Author.Tests.{eqb-true, eq-eqb, leb-true}
use Rattle.byte_order.proofs.Rows.{length_words_at}
use Rattle.memory.specs.Memory.{memory}
use Rattle.image.specs.Formed.{well_formed}
use Rattle.image.specs.Refusals.{◌else◌, first_of}
use Rattle.image.proofs.Refusals.{all_pass, none_fails, Passed, passed}
use Rattle.saved_format.specs.Format.{Bytes}
use Rattle.saved_format.specs.Writing.{file_of, file_length, Sized}
use Rattle.saved_format.proofs.Deciding.{same_or_not}
use Rattle.saved.specs.Refusals.{length_tests, length_code, lent_code, Lent}
use Rattle.saved.specs.Save.{machine_in, Saved, saved, save_code, stored, save_of}
use Rattle.saved.proofs.Words.{words_below}
use Rattle.saved.proofs.Places.{file_long}
use Rattle.saved.proofs.Calls.{lent}
use Rattle.saved_laws.specs.Calls.{SaveTells, RunSaves}

-- ---- a save that is not refused
pub record Done (image ram pad space : List ℕ) : Type 0 where
  pub lengths : lent_code image ram pad ≡ 0
  pub formed : well_formed image ≡ true
  pub fits : length (file_of (machine_in image ram pad)) ≤ length space
  pub is : save_of image ram pad space ≡ stored (machine_in image ram pad) space

-- an answer is the accepted one x, or y with the code that is not 0
pub code_by : {A : Type 0} (code_of : A → ℕ) (b : Bool) (code : ℕ) (x y : A) → code_of y ≡ code → eqb code 0 ≡ b → code_of (cond b x y) ≡ 0 → code ≡ 0
code_by code_of true code x y e t h = eqb-true code 0 t
code_by code_of false code x y e t h = sym e ∙ h

pub done : (image ram pad space : List ℕ) → (save_of image ram pad space).code ≡ 0 → Done image ram pad space
unfolding save_of save_code length_code
done image ram pad space h =
    let m = machine_in image ram pad in
    let n = save_code image ram pad space in
    let c = code_by (λ (s : Saved). s.code) (eqb n 0) n (stored m space) (saved n 0 space) refl refl h in
    let p = all_pass 8 (length_tests (length image) (length ram) (length pad) ((well_formed image else 2) ∷ (leb (length (file_of m)) (length space) else 8) ∷ [])) refl c in
    let r = p.1.1.1 in
    record {
      lengths = none_fails (length_tests (length image) (length ram) (length pad) []) (p.0, (p.1.0, (p.1.1.0, tt)));
      formed = r.0;
      fits = leb-true _ _ r.1.0;
      is = rw c;
    }

-- ---- the machine in the lent buffers has the sizes of a file's, and its image is the lent one
pub sized : (image ram pad : List ℕ) → Bytes image → Bytes ram → Bytes pad → Lent (length image) (length ram) (length pad) → Sized (machine_in image ram pad)
sized image ram pad a b c l =
    record {
      control_long = length_words_at image 0 44;
      control_words = words_below image 0 44 a;
      geometry_long = length_words_at image 176 64;
      geometry_words = words_below image 176 64 a;
      ram_some = l.ram_some;
      ram_bytes = b;
      pad_long = l.pad_long;
      pad_bytes = c;
    }

long : (image ram pad : List ℕ) → Bytes image → Lent (length image) (length ram) (length pad) → length (file_of (machine_in image ram pad)) ≡ file_length (length ram)
long image ram pad b l = file_long image ram pad b l.image_long l.ram_some l.pad_long

-- ---- the theorems
accepted_lengths : (image ram pad : List ℕ) {count : ℕ} → Passed image (memory ram pad) count → lent_code image ram pad ≡ 0
unfolding length_code
accepted_lengths image ram pad p =
    none_fails (length_tests (length image) (length ram) (length pad) []) (eq-eqb _ _ p.long, (p.memory.ram, (eq-eqb _ _ p.memory.pad, tt)))

refused_by : (b : Bool) (code : ℕ) (s : Saved) (space : List ℕ) → s.code ≡ 0 → ((cond b s (saved code 0 space)).code ≡ 0 → ⊥) → cond b s (saved code 0 space) ≡ saved code 0 space
refused_by true code s space z h = absurd (h z)
refused_by false code s space z h = refl

refused : (image ram pad space : List ℕ) → ((save_of image ram pad space).code ≡ 0 → ⊥) → save_of image ram pad space ≡ saved (save_code image ram pad space) 0 space
unfolding save_of
refused image ram pad space h = refused_by (eqb (save_code image ram pad space) 0) (save_code image ram pad space) (stored (machine_in image ram pad) space) space refl h

over_long : (f space : List ℕ) → length f ≤ length space → length (f ++ drop (length f) space) ≡ length space
over_long f space h = omega (arith, length-append f (drop (length f) space), length-drop (length f) space)

pub save_tells : SaveTells
save_tells image ram pad space b =
    let r = refused image ram pad space in
    let d = done image ram pad space in
    let f = file_of (machine_in image ram pad) in
    record {
      kept = λ h. rw (r h);
      none = λ h. rw (r h);
      number = λ h. rw (d h).is (long image ram pad b (lent _ _ _ (d h).lengths));
      behind = λ h. rw (d h).is (drop_at f (drop (length f) space) (length f) refl);
      long = ⊎_elim (λ h. rw (d h).is (over_long f space (d h).fits)) (λ h. rw (r h)) (same_or_not (save_of image ram pad space).code 0);
    }

pub run_saves : RunSaves
unfolding save_code first_of
run_saves image ram pad space count b h =
    let p = passed image (memory ram pad) count h in
    let l = lent (length image) (length ram) (length pad) (accepted_lengths image ram pad p) in
    rw (eq-eqb _ _ p.long, p.memory.ram, eq-eqb _ _ p.memory.pad, p.formed, long image ram pad b l)

-- The two calls: one law for each of their answers.
use mathlib.Core.Bool.{Bool, true, false, cond, and-eq-true_iff}
use mathlib.Core.List.{List, [], ◌∷◌, ◌++◌}
use mathlib.Core.Path.{◌≡◌, refl, ap, sym, ◌∙◌}
use Prim.Native.Nat.{ℕ, ◌%◌, ◌<◌, ◌≤◌}
use native.Mathlib.Omega.{arith}
use lib.Dec.{eqb, leb}
use lib.ListN.{length, drop}
use lib.Seq.{sets}
use borrow.Author.Tests.{eqb-true, leb-true, eq-eqb, ne_eqb, le-leb, lt-leb}
use Rattle.answer.specs.Codes.{code_of, number_of}
use Rattle.answer.specs.declared.Refusal.{Refusal}
use Rattle.answer.proofs.Codes.{has_code, no_number}
use Rattle.byte_order.specs.Bytes.{words_at}
use Rattle.memory.specs.Addresses.{ram_length}
use Rattle.image.specs.Formed.{formed, well_formed}
use Rattle.image.specs.Refusals.{Test, ◌else◌, first_of}
use Rattle.image.proofs.Refusals.{all_pass, at_most, first_then}
use Rattle.saved_format.specs.Format.{Bytes, Machine, Means}
use Rattle.saved_format.specs.Writing.{full_blocks, ram_in, file_of, file_length}
use Rattle.saved.specs.Refusals.{length_tests, length_code, lent_code, Lent}
use Rattle.saved.specs.Save.{machine_in, saved, save_code, stored, save_of}
use Rattle.saved.specs.Load.{loaded, image_of, load_code, load_of, Loads, lengths}
use Rattle.saved.specs.Parts.{fields_of, image_in, pad_in}
use Rattle.saved.proofs.Places.{registers_are, control_is, geometry_is, image_is, ram_is, pad_is, same_ram, other_ram, fields_are, file_long, over}

-- ---- the lent lengths
ram_by : (n : ℕ) → ram_length n ≡ true → (1 ≤ n) × (n ≤ 2097152)
unfolding ram_length
ram_by n h =
    let s = (and-eq-true_iff (leb 4 n) (leb n 2097152)).0 ((and-eq-true_iff (eqb (n % 4) 0) _).0 h).1 in
    (omega (arith, leb-true 4 n s.0), leb-true n 2097152 s.1)

pub lent : (i r p : ℕ) → length_code i r p ≡ 0 → Lent i r p
unfolding length_code
lent i r p h =
    let q = all_pass 6 (length_tests i r p []) refl h in
    let n = ram_by r q.1.0 in
    record { image_long = eqb-true _ _ q.0; ram_some = n.0; ram_most = n.1; pad_long = eqb-true _ _ q.1.1.0 }

-- a refusal of the lent lengths has no number
lent_number : (e : Refusal) (i r p : ℕ) → code_of e ≡ length_code i r p → number_of e ≡ 0
unfolding length_code
lent_number e i r p is = no_number e (rw is (at_most 6 (length_tests i r p []) refl))

-- ---- a save
module _ (image ram pad space : List ℕ) where
  abbrev rest : List Test
  rest = (well_formed image else 2) ∷ (leb (length (file_of (machine_in image ram pad))) (length space) else 8) ∷ []

  by_lengths : save_code image ram pad space ≡ cond (eqb (lent_code image ram pad) 0) (first_of rest) (lent_code image ram pad)
  unfolding save_code length_code
  by_lengths = first_then 6 (length_tests (length image) (length ram) (length pad) []) rest refl

  save_by : (n : ℕ) → n ≡ save_code image ram pad space → (n ≡ 0 → ⊥) → saved n 0 space ≡ save_of image ram pad space
  unfolding save_of
  save_by n e h = rw (← e, ne_eqb n 0 h)

  pub save_refused : (e : Refusal) → code_of e ≡ lent_code image ram pad → saved (code_of e) (number_of e) space ≡ save_of image ram pad space
  save_refused e is =
      let h : code_of e ≡ 0 → ⊥ = λ z. omega (arith, has_code e) in
      rw (lent_number e _ _ _ is) (save_by (code_of e) (rw (by_lengths, ← is, ne_eqb (code_of e) 0 h)) h)

  module _ (none : 0 ≡ lent_code image ram pad) (ok : Bool) (test : ok ≡ well_formed image) where
    pub save_unformed : ok ≡ false → saved 2 0 space ≡ save_of image ram pad space
    unfolding first_of
    save_unformed h = save_by 2 (rw (by_lengths, ← none, ← test, h)) (λ e. omega arith)

    module _ (formed : ok ≡ true) (b : Bytes image) where
      long : length (file_of (machine_in image ram pad)) ≡ file_length (length ram)
      long = let l = lent _ _ _ (sym none) in file_long image ram pad b l.image_long l.ram_some l.pad_long

      pub save_short : length space < file_length (length ram) → saved 8 0 space ≡ save_of image ram pad space
      unfolding first_of
      save_short k = save_by 8 (rw (by_lengths, ← none, ← test, formed, long, lt-leb _ _ k)) (λ e. omega arith)

      module _ (fits : file_length (length ram) ≤ length space) where
        fine : save_code image ram pad space ≡ 0
        unfolding first_of
        fine = rw (by_lengths, ← none, ← test, formed, long, le-leb _ _ fits)

        stored_is : stored (machine_in image ram pad) space ≡ save_of image ram pad space
        unfolding save_of
        stored_is = rw fine

        pub save_done : (n : ℕ) (next : List ℕ) → n ≡ file_length (length ram) → next ≡ sets space 0 (fields_of image ram pad) → saved 0 n next ≡ save_of image ram pad space
        save_done n next k e =
            let f = fields_are image ram pad b (lent _ _ _ (sym none)).image_long in
            let o : next ≡ file_of (machine_in image ram pad) ++ drop (length (file_of (machine_in image ram pad))) space =
            e ∙ ap (sets space 0) f ∙ over space (file_of (machine_in image ram pad)) _ refl (omega (arith, long)) in
            rw (k ∙ sym long, o) stored_is

-- ---- a load
module _ (f : List ℕ) (m : Machine) (s : Means f m) (image ram pad : List ℕ) (ok : Bool) (test : ok ≡ formed (words_at f 3 32) (words_at f 131 12) (words_at f 182 64)) where
  tested : ok ≡ well_formed (image_of m)
  tested = test ∙ rw (registers_are f m s, control_is f m s, geometry_is f m s)

  pub load_unformed : ok ≡ false → loaded 2 0 image ram pad ≡ load_of m image ram pad
  unfolding load_of load_code first_of
  load_unformed h = rw (← tested, h)

  pub load_other : ok ≡ true → (length f ≡ file_length (length ram) → ⊥) → loaded 8 0 image ram pad ≡ load_of m image ram pad
  unfolding load_of load_code first_of
  load_other h k = rw (← tested, h, ne_eqb _ _ (other_ram f m s (length ram) k))

  pub load_done : ok ≡ true → 1 ≤ length ram → length f ≡ file_length (length ram) → (i r p : List ℕ)
      → i ≡ image_in f → r ≡ ram_in (full_blocks (length ram)) (length ram) (drop 438 f) → p ≡ pad_in (length ram) f
      → loaded 0 0 i r p ≡ load_of m image ram pad
  unfolding load_of load_code first_of
  load_done h k l i r p a b c =
      let e = same_ram f m s (length ram) k l in
      rw (← tested, h, eq-eqb (length m.ram) (length ram) e, a, b, c, image_is f m s, ram_is f m s (length ram) e, pad_is f m s (length ram) e)

pub load_refused : (file image ram pad : List ℕ) (e : Refusal) → code_of e ≡ lent_code image ram pad → Loads file image ram pad (loaded (code_of e) (number_of e) image ram pad)
load_refused file image ram pad e is =
    lengths (λ z. omega (arith, has_code e)) (rw (lent_number e _ _ _ is, is))

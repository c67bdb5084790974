-- The refusals in their order, and what is accepted.
use mathlib.Core.Bool.{Bool, true, false}
use mathlib.Core.List.{List, [], ◌∷◌}
use mathlib.Core.Path.{◌≡◌, refl, ap, ◌∙◌}
use Prim.Native.Nat.{ℕ, ◌≤◌}
use native.Mathlib.Omega.{arith}
use lib.Dec.{eqb}
use lib.ListN.{length}
use Rattle.answer.specs.Codes as C
use Rattle.answer.specs.declared.Refusal.{Refusal}
use Rattle.answer.proofs.Codes.{has_code, no_number}
use Rattle.gte.specs.Commands.{outcome_of, is_done}
use Rattle.image.specs.Image.{image_length, geometry_in}
use Rattle.image.specs.Formed.{well_formed}
use Rattle.image.specs.Refusals.{Test, ◌else◌, first_of, image_refusal}
use Rattle.gte_rows.specs.Rows.{words_of}
use Rattle.gte_causes.specs.Causes.{rows_at}
use Rattle.causes.specs.Causes.{Causes, answered, answered_by, cause_words, space_test, code_of, number_of, words_after, causes_of, fitting}

-- ---- the image's tests, by what they come to
abbrev first : Bool → Bool → List Test → ℕ
first s f ts = first_of ((s else 1) ∷ (f else 2) ∷ ts)

refused_by : (s f : Bool) (ts : List Test) (rows ws : List ℕ) → (first s f [] ≡ 0 → ⊥) → answered (first s f []) 0 ws ≡ answered_by (first s f ts) rows ws
unfolding first_of number_of words_after
refused_by true true ts rows ws h = absurd (h refl)
refused_by true false ts rows ws h = refl
refused_by false f ts rows ws h = refl

accepted_by : (s f : Bool) (ts : List Test) (rows ws : List ℕ) → first s f [] ≡ 0 → answered_by (first_of ts) rows ws ≡ answered_by (first s f ts) rows ws
unfolding first_of
accepted_by true true ts rows ws h = refl
accepted_by true false ts rows ws h = absurd (omega arith)
accepted_by false f ts rows ws h = absurd (omega arith)

-- ---- code 1 or 2
refused : (m : List ℕ) (word : ℕ) (ws : List ℕ) → (image_refusal m ≡ 0 → ⊥) → answered (image_refusal m) 0 ws ≡ causes_of m word ws
unfolding image_refusal causes_of code_of
refused m word ws h = refused_by (eqb (length m) image_length) (well_formed m) ((is_done (outcome_of word) else 5) ∷ space_test (cause_words m word) ws ∷ []) (cause_words m word) ws h

first_small : (s f : Bool) → first s f [] ≤ 2
unfolding first_of
first_small true true = omega arith
first_small true false = omega arith
first_small false f = omega arith

image_small : (m : List ℕ) → image_refusal m ≤ 2
unfolding image_refusal
image_small m = first_small (eqb (length m) image_length) (well_formed m)

pub refused_image : (m : List ℕ) (word : ℕ) (ws : List ℕ) (e : Refusal) → C.code_of e ≡ image_refusal m → Causes m word ws (C.refused_by e) ws
refused_image m word ws e h =
    let p = has_code e in
    let q = image_small m in
    record { is = rw (no_number e (omega arith), h) (refused m word ws (λ z. absurd (omega arith))); whole = λ k. absurd (omega arith) }

accepted : (m : List ℕ) (word : ℕ) (ws : List ℕ) → image_refusal m ≡ 0 → answered_by (first_of ((is_done (outcome_of word) else 5) ∷ space_test (cause_words m word) ws ∷ [])) (cause_words m word) ws ≡ causes_of m word ws
unfolding image_refusal causes_of code_of
accepted m word ws h = accepted_by (eqb (length m) image_length) (well_formed m) ((is_done (outcome_of word) else 5) ∷ space_test (cause_words m word) ws ∷ []) (cause_words m word) ws h

-- ---- code 5
pub not_listed : (m : List ℕ) (word : ℕ) (ws : List ℕ) → image_refusal m ≡ 0 → is_done (outcome_of word) ≡ false → answered 5 0 ws ≡ causes_of m word ws
unfolding first_of number_of words_after
not_listed m word ws h e = five ∙ accepted m word ws h
  where
    five : answered 5 0 ws ≡ answered_by (first_of ((is_done (outcome_of word) else 5) ∷ space_test (cause_words m word) ws ∷ [])) (cause_words m word) ws
    five = rw e

-- ---- code 8, or none
pub is_listed : (m : List ℕ) (word : ℕ) (ws g : List ℕ) → image_refusal m ≡ 0 → is_done (outcome_of word) ≡ true → g ≡ geometry_in m → fitting (words_of (rows_at word g)) ws ≡ causes_of m word ws
unfolding fitting first_of
is_listed m word ws g h e q = ap (λ (x : List ℕ). fitting (words_of (rows_at word x)) ws) q ∙ passed ∙ accepted m word ws h
  where
    passed : fitting (cause_words m word) ws ≡ answered_by (first_of ((is_done (outcome_of word) else 5) ∷ space_test (cause_words m word) ws ∷ [])) (cause_words m word) ws
    passed = rw e

-- The call's answer row by row, from what its contract says.
use mathlib.Core.Bool.{Bool, true, false, cond}
use mathlib.Core.List.{List, [], ◌∷◌, ◌++◌}
use mathlib.Core.Path.{◌≡◌, refl, sym, ap, ◌∙◌, subst}
use Prim.Native.Nat.{ℕ, ◌≤◌}
use native.Mathlib.Omega.{arith}
use Rattle.std.specs.Prelude.{Result, Ok, Err}
use borrow.Author.Tests.{ne_eqb, leb-true, leb-false, le-leb}
use lib.Dec.{eqb, leb}
use lib.ListN.{length, drop, length-append, length-drop}
use lib.Seq.{drop-append_seam}
use Rattle.byte_order.proofs.Rows.{length_words_at}
use Rattle.gte_rows.specs.Rows.{Row, words_of}
use Rattle.gte.specs.Commands.{outcome_of, is_done}
use Rattle.gte.specs.declared.Unlisted.{Unlisted}
use Rattle.gte_causes.specs.Causes.{rows_at}
use Rattle.answer.specs.declared.Answer.{Answer}
use Rattle.image.specs.Image.{image_length, geometry_in}
use Rattle.image.specs.Formed.{well_formed}
use Rattle.image.specs.Refusals.{◌else◌, first_of, image_tests}
use Rattle.image.proofs.Refusals.{all_pass}
use Rattle.causes.specs.Causes.{Answered, cause_words, space_test, code_of, number_of, words_after, causes_of, Causes}
use Rattle.cause_laws.specs.Rows.{RowsExact}
use Rattle.cause_laws.specs.Exact.{rows_in, CausesLaw, RefusedLaw, ShortLaw}
use Rattle.cause_laws.proofs.Rows.{rows_law}
use Rattle.cause_laws.proofs.Most.{five, most}

-- ---- rows read back from their words
rows_back : (rows : List Row) (rest : List ℕ) → rows_in (length rows) (words_of rows ++ rest) ≡ rows
unfolding words_of
rows_back [] rest = refl
rows_back (r ∷ rows) rest = ap (λ (rs : List Row). r ∷ rs) (rows_back rows rest)

-- ---- what a contract's equation says of each part of the answer
module _ {m : List ℕ} {word : ℕ} {ws : List ℕ} {a : Answer} {ws' : List ℕ} (h : Causes m word ws a ws') where
  code_is : a.code ≡ code_of m word ws
  unfolding causes_of
  code_is = ap (λ (x : Answered). x.answer.code) h.is

  number_is : a.number ≡ number_of (code_of m word ws) (cause_words m word)
  unfolding causes_of
  number_is = ap (λ (x : Answered). x.answer.number) h.is

  words_are : ws' ≡ words_after (code_of m word ws) (cause_words m word) ws
  unfolding causes_of
  words_are = ap (λ (x : Answered). x.words) h.is

-- ---- a call that is not refused
record Listed (m : List ℕ) (word : ℕ) (ws : List ℕ) : Type 0 where
  done : outcome_of word ≡ Ok tt
  fits : length (cause_words m word) ≤ length ws

done_by : (o : Result (Unit {0}) Unlisted) → is_done o ≡ true → o ≡ Ok tt
done_by (Ok x) e = refl
done_by (Err u) e = cc

listed : (m : List ℕ) (word : ℕ) (ws : List ℕ) → code_of m word ws ≡ 0 → Listed m word ws
unfolding code_of
listed m word ws e =
    let p = all_pass 8 (image_tests m ((is_done (outcome_of word) else 5) ∷ space_test (cause_words m word) ws ∷ [])) refl e in
    record { done = done_by (outcome_of word) p.1.1.0; fits = leb-true _ _ p.1.1.1.0 }

all_number : (rows : List ℕ) (code : ℕ) → code ≡ 0 → number_of code rows ≡ length rows
unfolding number_of
all_number rows code e = rw e

all_words : (rows ws : List ℕ) (code : ℕ) → code ≡ 0 → words_after code rows ws ≡ rows ++ drop (length rows) ws
unfolding words_after
all_words rows ws code e = rw e

same_length : (rows ws : List ℕ) → length rows ≤ length ws → length (rows ++ drop (length rows) ws) ≡ length ws
same_length rows ws l =
    let a = length-append rows (drop (length rows) ws) in
    let b = length-drop (length rows) ws in
    omega arith

pub causes_law : CausesLaw
causes_law m word ws a ws' h z =
    let code = sym (code_is h) ∙ z in
    let l = listed m word ws code in
    let rows = rows_at word (geometry_in m) in
    let n = number_is h ∙ all_number (words_of rows) (code_of m word ws) code in
    let w = words_are h ∙ all_words (words_of rows) ws (code_of m word ws) code in
    record {
      count = length rows;
      number = n ∙ five rows;
      room = rw n l.fits;
      most = rw n (most word (geometry_in m));
      rows = subst (λ (rs : List Row). RowsExact word (geometry_in m) rs) (sym (ap (rows_in (length rows)) w ∙ rows_back rows (drop (length (words_of rows)) ws)))
          (rows_law word (geometry_in m) (length_words_at m 176 64) l.done (h.whole z));
      long = ap length w ∙ same_length (words_of rows) ws l.fits;
      behind = rw (n, w) (drop-append_seam (words_of rows) (drop (length (words_of rows)) ws));
    }

-- ---- a refused call
pub refused_law : RefusedLaw
unfolding words_after
refused_law m word ws a ws' h z = words_are h ∙ rw (ne_eqb (code_of m word ws) 0 (λ e. z (code_is h ∙ e)))

-- ---- a call with too few words: every test but the last passes
record Short (m : List ℕ) (word : ℕ) (ws : List ℕ) : Type 0 where
  long : eqb (length m) image_length ≡ true
  formed : well_formed m ≡ true
  done : is_done (outcome_of word) ≡ true
  less : leb (length (cause_words m word)) (length ws) ≡ false

short_by : (s f d t : Bool) → first_of ((s else 1) ∷ (f else 2) ∷ (d else 5) ∷ (t else 8) ∷ []) ≡ 8 → (s ≡ true) × (f ≡ true) × (d ≡ true) × (t ≡ false)
unfolding first_of
short_by true true true true e = absurd (omega arith)
short_by true true true false e = (refl, refl, refl, refl)
short_by true true false t e = absurd (omega arith)
short_by true false d t e = absurd (omega arith)
short_by false f d t e = absurd (omega arith)

short : (m : List ℕ) (word : ℕ) (ws : List ℕ) → code_of m word ws ≡ 8 → Short m word ws
unfolding code_of
short m word ws e =
    let p = short_by (eqb (length m) image_length) (well_formed m) (is_done (outcome_of word)) (leb (length (cause_words m word)) (length ws)) e in
    record { long = p.0; formed = p.1; done = p.2; less = p.3 }

needed : (rows : List ℕ) (code : ℕ) → code ≡ 8 → number_of code rows ≡ length rows
unfolding number_of
needed rows code e = rw e

enough : (m : List ℕ) (word : ℕ) (ws vs : List ℕ) → Short m word ws → length (cause_words m word) ≤ length vs → code_of m word vs ≡ 0
unfolding code_of first_of
enough m word ws vs h l = rw (h.long, h.formed, h.done, le-leb (length (cause_words m word)) (length vs) l)

pub short_law : ShortLaw
unfolding causes_of
short_law m word ws a ws' h z =
    let code = sym (code_is h) ∙ z in
    let s = short m word ws code in
    let n = number_is h ∙ needed (cause_words m word) (code_of m word ws) code in
    record {
      less = rw n (leb-false (length (cause_words m word)) (length ws) s.less);
      enough = λ vs l.
          let c = enough m word ws vs s (rw n at l) in
          rw (c, all_number (cause_words m word) 0 refl, n);
    }

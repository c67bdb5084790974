-- What a call that is not refused has passed, of any list of tests and of the run's.
use Prim.Native.Nat.{ℕ, ◌≤◌}
use native.Mathlib.Omega.{arith}
use mathlib.Core.Bool.{Bool, true, false, cond, ◌&&◌, and-eq-true_iff}
use mathlib.Core.List.{List, [], ◌∷◌, ◌++◌}
use mathlib.Core.Path.{◌≡◌, refl, sym}
use lib.Dec.{eqb, leb}
use lib.ListN.{length, replicate}
use borrow.Author.Tests.{eqb-true, leb-true, eq-eqb, ne_eqb, le-leb}
use Rattle.gte_registers.specs.Registers.{view}
use Rattle.memory.specs.Memory.{Memory, MemoryOk}
use Rattle.cpu_state.specs.State.{state}
use Rattle.cpu_state.specs.declared.control.Control.{Control}
use Rattle.image.specs.Image.{image_length, registers_in, control_in, geometry_in, control_of, machine_of}
use Rattle.image.specs.Formed.{well_formed}
use Rattle.image.specs.Refusals.{most_steps, Test, ◌else◌, first_of, image_tests, lent_tests, refusal_of, image_refusal, refusal_after, words_or}
use Rattle.image.proofs.Facts.{formed_view}

-- ---- of any tests: all pass
abbrev pub Pass : List Test → Type 0
Pass [] = Unit
Pass ((ok else code) ∷ ts) = (ok ≡ true) × Pass ts

-- every code is a number from 1 to most
abbrev pub coded : ℕ → List Test → Bool
coded most [] = true
coded most ((ok else code) ∷ ts) = (leb 1 code && leb code most) && coded most ts

record Coded (most code : ℕ) (ts : List Test) : Type 0 where
  least : 1 ≤ code
  greatest : code ≤ most
  rest : coded most ts ≡ true

codes : (most code : ℕ) (ts : List Test) → ((leb 1 code && leb code most) && coded most ts) ≡ true → Coded most code ts
codes most code ts h =
    let s = (and-eq-true_iff (leb 1 code && leb code most) (coded most ts)).0 h in
    let n = (and-eq-true_iff (leb 1 code) (leb code most)).0 s.0 in
    record { least = leb-true 1 code n.0; greatest = leb-true code most n.1; rest = s.1 }

pub all_pass : (most : ℕ) (ts : List Test) → coded most ts ≡ true → first_of ts ≡ 0 → Pass ts
unfolding first_of
all_pass most [] c h = tt
all_pass most ((true else code) ∷ ts) c h = (refl, all_pass most ts (codes most code ts c).rest h)
all_pass most ((false else code) ∷ ts) c h = let n = (codes most code ts c).least in absurd (omega arith)

pub none_fails : (ts : List Test) → Pass ts → first_of ts ≡ 0
unfolding first_of
none_fails [] p = refl
none_fails ((ok else code) ∷ ts) p = rw p.0 (none_fails ts p.1)

pub at_most : (most : ℕ) (ts : List Test) → coded most ts ≡ true → first_of ts ≤ most
unfolding first_of
at_most most [] c = omega arith
at_most most ((true else code) ∷ ts) c = at_most most ts (codes most code ts c).rest
at_most most ((false else code) ∷ ts) c = (codes most code ts c).greatest

-- tests in front of others: theirs is the code, or there is none and the others' is
pub first_then : (most : ℕ) (ts us : List Test) → coded most ts ≡ true → first_of (ts ++ us) ≡ cond (eqb (first_of ts) 0) (first_of us) (first_of ts)
unfolding first_of
first_then most [] us c = refl
first_then most ((true else code) ∷ ts) us c = first_then most ts us (codes most code ts c).rest
first_then most ((false else code) ∷ ts) us c =
    let n = (codes most code ts c).least in rw (ne_eqb code 0 (λ e. omega arith))

-- ---- of a call of the run
pub record Passed (i : List ℕ) (m : Memory) (count : ℕ) : Type 0 where
  pub long : length i ≡ image_length
  pub formed : well_formed i ≡ true
  pub memory : MemoryOk m
  pub most : count ≤ most_steps

pub passed : (i : List ℕ) (m : Memory) (count : ℕ) → refusal_of i m count ≡ 0 → Passed i m count
unfolding refusal_of
passed i m count h =
    let p = all_pass 6 (image_tests i (lent_tests m count)) refl h in
    let q = p.1.1 in
    record { long = eqb-true _ _ p.0; formed = p.1.0; memory = record { ram = q.0; pad = eqb-true _ _ q.1.0 }; most = leb-true _ _ q.1.1.0 }

pub admitted : (i : List ℕ) (m : Memory) (count : ℕ) → Passed i m count → refusal_of i m count ≡ 0
unfolding refusal_of
admitted i m count p =
    none_fails (image_tests i (lent_tests m count))
    (eq-eqb _ _ p.long, (p.formed, (p.memory.ram, (eq-eqb _ _ p.memory.pad, (le-leb _ _ p.most, tt)))))

-- ---- its two halves: the image's refusal comes first, and the others' where there is none
pub halves : (i : List ℕ) (m : Memory) (count : ℕ) → refusal_of i m count ≡ refusal_after (image_refusal i) m count
unfolding refusal_of image_refusal refusal_after
halves i m count = first_then 2 (image_tests i []) (lent_tests m count) refl

-- a refused image's code is the call's
pub accepted_first : (i : List ℕ) (m : Memory) (count : ℕ) → refusal_of i m count ≡ 0 → image_refusal i ≡ 0
unfolding image_refusal
accepted_first i m count h = let p = passed i m count h in none_fails (image_tests i []) (eq-eqb _ _ p.long, (p.formed, tt))

pub code_small : (code : ℕ) (i : List ℕ) (m : Memory) (count : ℕ) → code ≡ refusal_of i m count → code ≤ 6
unfolding refusal_of
code_small code i m count e = rw e (at_most 6 (image_tests i (lent_tests m count)) refl)

-- ---- the machine that was read, where the image is accepted
pub machine_read : (i : List ℕ) (m : Memory) (c : Control) (r g : List ℕ) → c ≡ control_of (words_or i (control_in i) (replicate 12 0)) → r ≡ words_or i (registers_in i) (replicate 32 0) → g ≡ words_or i (geometry_in i) (replicate 64 0) → image_refusal i ≡ 0 → state c r (view g) m ≡ machine_of i m
unfolding image_refusal
machine_read i m c r g ce re ge h =
    let p = all_pass 2 (image_tests i []) refl h in
    rw (ce, re, ge, p.0, formed_view (registers_in i) (control_in i) (geometry_in i) p.1.0)

-- ---- words that were read, where the image is accepted
pub words_of : (m x ws other : List ℕ) → x ≡ words_or m ws other → image_refusal m ≡ 0 → x ≡ ws
unfolding image_refusal
words_of m x ws other e h = let p = all_pass 2 (image_tests m []) refl h in rw p.0 at e

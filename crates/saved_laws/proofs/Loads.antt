-- What the outcome of a load tells.
use mathlib.Core.Bool.{Bool, true, false, cond}
use mathlib.Core.List.{List, [], ◌∷◌, ◌++◌}
use mathlib.Core.Logic.{⊎_elim}
use mathlib.Core.Path.{◌≡◌, refl, ap, sym, ◌∙◌}
use Prim.Native.Nat.{ℕ}
use native.Mathlib.Omega.{arith}
use lib.Dec.{eqb}
use lib.ListN.{length, length-append}
use Rattle.memory.specs.Addresses.{ram_length}
use Rattle.memory.specs.Memory.{memory}
use borrow.Author.Tests.{eqb-true}
use Rattle.byte_order.proofs.Rows.{length_bytes_of, length_words_at}
use Rattle.image.specs.Formed.{well_formed}
use Rattle.image.specs.Refusals.{◌else◌}
use Rattle.image.proofs.Refusals.{all_pass, admitted}
use Rattle.saved_format.specs.Format.{Machine, Means}
use Rattle.saved_format.proofs.Deciding.{same_or_not}
use Rattle.saved_format.proofs.Theorems.{one_meaning, one_number}
use Rattle.saved_format.proofs.Every.{every_file}
use Rattle.saved.specs.Refusals.{length_tests, length_code, lent_code}
use Rattle.saved.specs.Load.{Loaded, loaded, image_of, load_code, load_of, Loads, lengths, malformed, means}
use Rattle.saved_laws.specs.Calls.{OneOutcome, Outcome, EveryLoad, LoadTold, LoadTells, LoadedRuns}
use Rattle.saved_laws.proofs.Saves.{code_by}

-- ---- one outcome
pub one_outcome : OneOutcome
one_outcome file image ram pad a b (lengths h e) (lengths k g) = e ∙ sym g
one_outcome file image ram pad a b (lengths h e) (malformed k n w g) = absurd (h k)
one_outcome file image ram pad a b (lengths h e) (means k n w g) = absurd (h k)
one_outcome file image ram pad a b (malformed h m v e) (lengths k g) = absurd (k h)
one_outcome file image ram pad a b (malformed h m v e) (malformed k n w g) = e ∙ ap (λ (x : ℕ). loaded 7 x image ram pad) (one_number file m n v w) ∙ sym g
one_outcome file image ram pad a b (malformed h m v e) (means k n w g) = absurd (v.0 (n, w))
one_outcome file image ram pad a b (means h m v e) (lengths k g) = absurd (k h)
one_outcome file image ram pad a b (means h m v e) (malformed k n w g) = absurd (w.0 (m, v))
one_outcome file image ram pad a b (means h m v e) (means k n w g) = e ∙ ap (λ (x : Machine). load_of x image ram pad) (one_meaning file m n v w) ∙ sym g

-- ---- and there is one
pub outcome_of_lem : (file image ram pad : List ℕ) (o : Loaded) → Loads file image ram pad o → Outcome file image ram pad o
outcome_of_lem file image ram pad o l = record { is = l; only = λ a k. one_outcome file image ram pad a o k l }

pub every_load : EveryLoad
every_load file image ram pad b =
    ⊎_elim
    (λ z. ⊎_elim
    (λ w. (load_of w.0 image ram pad, outcome_of_lem file image ram pad _ (means z w.0 w.1 refl)))
    (λ w. (loaded 7 w.0 image ram pad, outcome_of_lem file image ram pad _ (malformed z w.0 w.1 refl)))
    (every_file file b))
    (λ h. (loaded (lent_code image ram pad) 0 image ram pad, outcome_of_lem file image ram pad _ (lengths h refl)))
    (same_or_not (lent_code image ram pad) 0)

-- ---- a load that is not refused
pub record Took (file image ram pad : List ℕ) (o : Loaded) : Type 0 where
  pub machine : Machine
  pub meaning : Means file machine
  pub lent : lent_code image ram pad ≡ 0
  pub formed : well_formed (image_of machine) ≡ true
  pub long : length machine.ram ≡ length ram
  pub is : o ≡ loaded 0 0 (image_of machine) machine.ram machine.pad

accepted : (m : Machine) (image ram pad : List ℕ) → (load_of m image ram pad).code ≡ 0 → load_code m ram ≡ 0
unfolding load_of
accepted m image ram pad h =
    let n = load_code m ram in
    code_by (λ (o : Loaded). o.code) (eqb n 0) n (loaded 0 0 (image_of m) m.ram m.pad) (loaded n 0 image ram pad) refl refl h

taken : (m : Machine) (image ram pad : List ℕ) → load_code m ram ≡ 0 → load_of m image ram pad ≡ loaded 0 0 (image_of m) m.ram m.pad
unfolding load_of
taken m image ram pad e = rw e

passes : (m : Machine) (ram : List ℕ) → load_code m ram ≡ 0 → (well_formed (image_of m) ≡ true) × (length m.ram ≡ length ram)
unfolding load_code
passes m ram h =
    let p = all_pass 8 ((well_formed (image_of m) else 2) ∷ (eqb (length m.ram) (length ram) else 8) ∷ []) refl h in
    (p.0, eqb-true _ _ p.1.0)

code_of_lem : (a b : Loaded) → a ≡ b → a.code ≡ 0 → b.code ≡ 0
code_of_lem a b e z = rw e at z

pub took : (file image ram pad : List ℕ) (o : Loaded) → Loads file image ram pad o → o.code ≡ 0 → Took file image ram pad o
took file image ram pad o (lengths h e) z = absurd (h (code_of_lem o _ e z))
took file image ram pad o (malformed h n w e) z = let y = code_of_lem o _ e z in absurd (omega arith)
took file image ram pad o (means h m s e) z =
    let c = accepted m image ram pad (code_of_lem o _ e z) in
    let p = passes m ram c in
    record { machine = m; meaning = s; lent = h; formed = p.0; long = p.1; is = e ∙ taken m image ram pad c }

-- ---- what a refused one leaves
kept_by : (b : Bool) (code : ℕ) (x : Loaded) (image ram pad : List ℕ) → x.code ≡ 0 → x.number ≡ 0 → LoadTold image ram pad (cond b x (loaded code 0 image ram pad))
kept_by true code x image ram pad z n = record { kept = λ h. absurd (h z); number = λ h. n }
kept_by false code x image ram pad z n = record { kept = λ h. refl; number = λ h. refl }

kept : (m : Machine) (image ram pad : List ℕ) → LoadTold image ram pad (load_of m image ram pad)
unfolding load_of
kept m image ram pad = kept_by (eqb (load_code m ram) 0) (load_code m ram) (loaded 0 0 (image_of m) m.ram m.pad) image ram pad refl refl

pub load_tells : LoadTells
load_tells file image ram pad o (lengths h e) = rw e (record { kept = λ h. refl; number = λ h. refl })
load_tells file image ram pad o (malformed h n w e) = rw e (record { kept = λ h. refl; number = λ h. absurd (h refl) })
load_tells file image ram pad o (means h m s e) = rw e (kept m image ram pad)

-- ---- what a load left is run
pub image_long : (file : List ℕ) (m : Machine) → Means file m → length (image_of m) ≡ 432
image_long file m s = omega (arith, length_bytes_of (m.control ++ m.geometry), length-append m.control m.geometry, ap length s.control_words ∙ length_words_at s.control 0 44, ap length s.geometry_words ∙ length_words_at s.geometry 0 64)

pub loaded_runs : LoadedRuns
unfolding length_code
loaded_runs file image ram pad o count l z most =
    let t = took file image ram pad o l z in
    let p = all_pass 6 (length_tests (length image) (length ram) (length pad) []) refl t.lent in
    rw t.is
    (admitted (image_of t.machine) (memory t.machine.ram t.machine.pad) count
    (record {
      long = image_long file t.machine t.meaning;
      formed = t.formed;
      memory = record { ram = ap ram_length t.long ∙ p.1.0; pad = t.meaning.pad_long };
      most = most;
    }))

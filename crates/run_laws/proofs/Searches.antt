-- A search goes on as a run does, until a bit comes up.
use Prim.Native.Nat.{ℕ, zero, suc, ◌+◌, ◌<◌, ◌≤◌}
use native.Mathlib.Numerals.{add-one}
use native.Mathlib.Omega.{arith}
use mathlib.Core.Bool.{Bool, true, false, cond, ◌||◌}
use mathlib.Core.Path.{◌≡◌, refl, sym, ap, ap₂, ◌∙◌}
use lib.Dec.{eqb}
use borrow.Author.Tests.{eqb-true, eqb-false}
use Rattle.cpu_state.specs.State.{State}
use Rattle.cpu_step.specs.Step.{step_of}
use Rattle.run.specs.Run.{Run, ran, run_of}
use Rattle.run.proofs.Steps.{goes_on}
use Rattle.run.specs.Search.{rises_of, found_of, Search, sought, further_by, search_on, search_of}
use Rattle.step_laws.proofs.Kept.{step_kept}
use Rattle.run_laws.specs.Searches.{rises_at, Searched, SearchExact}

never : {A : Type 0} (m n : ℕ) → m ≡ n → m < n → A
never m n e h = absurd (omega arith)

none : (mask : ℕ) (s : State) → Searched mask 0 s (sought 0 0 s)
unfolding run_of
none mask s =
    record {
      codes = refl;
      most = omega arith;
      reached = refl;
      before = λ i h. absurd (omega arith);
      last_step = λ i e. absurd (omega arith);
      all = λ e. refl;
      stopped = λ e. never 0 5 e (omega arith);
      found = λ e. never 0 16 e (omega arith);
    }

-- the search had ended
ended : (mask n : ℕ) (s : State) (r : Search) → eqb r.code 0 ≡ false → Searched mask n s r → Searched mask (suc n) s r
ended mask n s r e g =
    record {
      codes = g.codes;
      most = omega (arith, g.most);
      reached = g.reached;
      before = g.before;
      last_step = g.last_step;
      all = λ h. absurd (eqb-false _ _ e h);
      stopped = λ h. (omega (arith, (g.stopped h).0), (g.stopped h).1);
      found = g.found;
    }

-- it goes on, and the machine stops
halted : (mask n : ℕ) (s : State) (r : Search) → r.code ≡ 0 → Searched mask n s r → (step_of r.last).stop ≡ true → Searched mask (suc n) s (sought 5 r.steps (step_of r.last).after)
halted mask n s r z g h =
    let same : (step_of r.last).after ≡ r.last = (step_kept r.last).stays h in
    record {
      codes = refl;
      most = omega (arith, g.most);
      reached = rw same g.reached;
      before = g.before;
      last_step = λ i e. g.last_step i e ∙ ap (λ (c : ℕ). eqb c 16) z;
      all = λ e. never 0 5 (sym e) (omega arith);
      stopped = λ e. (omega (arith, g.most), rw same h);
      found = λ e. never 5 16 e (omega arith);
    }

found_16 : (x : Bool) → eqb (found_of x) 16 ≡ x
found_16 true = refl
found_16 false = refl

found_codes : (x : Bool) → (eqb (found_of x) 0 || (eqb (found_of x) 5 || eqb (found_of x) 16)) ≡ true
found_codes true = refl
found_codes false = refl

not_5 : {A : Type 0} (x : Bool) → found_of x ≡ 5 → A
not_5 true h = never 5 16 (sym h) (omega arith)
not_5 false h = never 0 5 h (omega arith)

-- no step up to the last of a search that goes on
quiet : (mask n : ℕ) (s : State) (r : Search) → r.code ≡ 0 → Searched mask n s r → (i : ℕ) → suc i ≤ r.steps → rises_at mask s i ≡ false
quiet mask n s r z g i h = by_test (eqb (suc i) r.steps) refl where
  by_test : (b : Bool) → eqb (suc i) r.steps ≡ b → rises_at mask s i ≡ false
  by_test true e = g.last_step i (eqb-true _ _ e) ∙ ap (λ (c : ℕ). eqb c 16) z
  by_test false e = let d : suc i ≡ r.steps → ⊥ = eqb-false _ _ e in g.before i (omega arith)

-- it goes on, and the step completes
went : (mask n : ℕ) (s : State) (r : Search) → r.code ≡ 0 → Searched mask n s r → (step_of r.last).stop ≡ false → Searched mask (suc n) s (sought (found_of (rises_of mask r.last (step_of r.last).after)) (r.steps + 1) (step_of r.last).after)
went mask n s r z g h =
    let t = step_of r.last in
    let x = rises_of mask r.last t.after in
    let on : run_of (r.steps + 1) s ≡ ran false (r.steps + 1) t.after = goes_on r.steps s r.last t.after t.stop g.reached refl h in
    let at : rises_at mask s r.steps ≡ x =
    ap₂ (rises_of mask) (ap (λ (q : Run). q.last) g.reached) (ap (λ (k : ℕ). (run_of k s).last) (sym (add-one r.steps)) ∙ ap (λ (q : Run). q.last) on) in
    record {
      codes = found_codes x;
      most = let k = g.all z in omega arith;
      reached = on;
      before = λ i l. quiet mask n s r z g i (omega arith);
      last_step = λ i e. let k : i ≡ r.steps = omega arith in ap (rises_at mask s) k ∙ at ∙ sym (found_16 x);
      all = λ e. let k = g.all z in omega arith;
      stopped = λ e. not_5 x e;
      found = λ e. omega arith;
    }

further_by_lem : (b : Bool) (mask n : ℕ) (s : State) (r : Search) → (step_of r.last).stop ≡ b → r.code ≡ 0 → Searched mask n s r → Searched mask (suc n) s (cond b (sought 5 r.steps (step_of r.last).after) (sought (found_of (rises_of mask r.last (step_of r.last).after)) (r.steps + 1) (step_of r.last).after))
further_by_lem true mask n s r e z g = halted mask n s r z g e
further_by_lem false mask n s r e z g = went mask n s r z g e

on_by : (b : Bool) (mask n : ℕ) (s : State) (r : Search) → eqb r.code 0 ≡ b → Searched mask n s r → Searched mask (suc n) s (cond b (further_by mask r (step_of r.last)) r)
on_by true mask n s r e g = further_by_lem (step_of r.last).stop mask n s r refl (eqb-true _ _ e) g
on_by false mask n s r e g = ended mask n s r e g

pub search_exact : SearchExact
unfolding search_of search_on
search_exact mask zero s = none mask s
search_exact mask (suc n) s = on_by (eqb (search_of mask n s).code 0) mask n s (search_of mask n s) refl (search_exact mask n s)

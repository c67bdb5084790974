-- Demands 2 and 3 over runs: a step that is completed is one step from the machine of the image before it, and where it carries out a
-- command, the command's own theorems apply.
use Prim.Native.Nat.{ℕ, zero, suc, ◌+◌, ◌-◌, ◌<◌, ◌≤◌}
use native.Mathlib.Omega.{arith}
use mathlib.Core.Bool.{Bool, true, false, cond}
use mathlib.Core.List.{List}
use mathlib.Core.Path.{◌≡◌, refl, sym, ap, ◌∙◌, subst}
use lib.Dec.{eqb}
use borrow.Author.Tests.{eqb-true}
use Rattle.cpu_decode.specs.Decode.{decode_of}
use Rattle.cpu_decode.specs.declared.operations.Op.{Op}
use Rattle.cpu_decode.specs.declared.operations.Op.TheVariants as D
use Rattle.cpu_decode.specs.Fields.{fields_of}
use Rattle.cpu_execute.specs.Execute.{execute_of}
use Rattle.memory.specs.Memory.{Memory}
use Rattle.cpu_state.specs.State.{State}
use Rattle.cpu_effects.specs.Effects.{next_step}
use Rattle.cpu_perform.specs.Perform.{Tick, perform_of}
use Rattle.cpu_step.specs.Step.{command_step, issue_of, step_of}
use Rattle.words.specs.Words.{bit_at}
use Rattle.gte_registers.specs.Registers.{reg}
use Rattle.gte.specs.Commands.{Command, command_in, listed, outcome_of, command_of}
use Rattle.std.specs.Prelude.{Ok}
use Rattle.gte_laws.specs.Exact.{checks_at, condition}
use Rattle.gte_laws.specs.Demand.{tolerance, Near, Goes, single, first, second, third}
use Rattle.gte_laws.proofs.Exact.{demand_2}
use Rattle.gte_laws.proofs.Demand.{demand_3}
use Rattle.image.specs.Image.{geometry_in, machine_of, image_of}
use Rattle.run.specs.Run.{Run, further, onwards, run_of}
use Rattle.run.proofs.Steps.{stays}
use Rattle.fliskadee.specs.Find.{Answer, answer, packed}
use Rattle.fliskadee.specs.Answer.{finished, answer_of}
use Rattle.image.specs.Refusals.{most_steps, refusal_of}
use Rattle.image.proofs.Refusals.{passed}
use Rattle.step_laws.specs.Formed.{StateFormed}
use Rattle.run_laws.specs.Runs.{Accepted, steps_in}
use Rattle.run_laws.specs.Demand.{CarriesOut, Demand2, Demand3}
use Rattle.run_laws.proofs.Machine.{geometry_long, geometry_back, machine_back}
use Rattle.run_laws.proofs.Joins.{run_going}
use Rattle.run_laws.proofs.Answers.{answer_run, admitted_for, machine_at, steps_packed}

apart : {A : Type 0} → ◌≡◌ {A = Bool} true false → A
apart z = let n : ◌≡◌ {A = ℕ} 0 1 = ap (λ (b : Bool). cond b 0 1) z in absurd (omega arith)

-- ---- a run that completes a step was not refused, and had not stopped before it

record Completes (i : List ℕ) (m : Memory) (n k : ℕ) : Type 0 where
  ok : refusal_of i m n ≡ 0
  most : n ≤ most_steps
  steps : k ≤ (run_of n (machine_of i m)).steps

completes_by : (t : Bool) (i : List ℕ) (m : Memory) (n k code : ℕ) → eqb (refusal_of i m n) 0 ≡ t → suc k ≤ steps_in (cond t (finished (run_of n (machine_of i m))) (answer (packed code 0) i m)) → Completes i m n (suc k)
completes_by true i m n k code e h =
    let z : refusal_of i m n ≡ 0 = eqb-true _ 0 e in
    let r = run_of n (machine_of i m) in
    let l : n ≤ most_steps = (passed i m n z).most in
    let t : r.steps < 1048576 = omega (arith, (run_going n (machine_of i m)).most) in
    record { ok = z; most = l; steps = rw (steps_packed r.stop r.steps t) at h }
completes_by false i m n k code e h = absurd (omega arith)

completes : (i : List ℕ) (m : Memory) (n k : ℕ) → suc k ≤ steps_in (answer_of i m n) → Completes i m n (suc k)
unfolding answer_of
completes i m n k h = completes_by (eqb (refusal_of i m n) 0) i m n k (refusal_of i m n) refl h

-- a run that has stopped has completed fewer steps than it was asked for
fewer_by : (b d : Bool) (n : ℕ) (r : Run) (t : Tick) → r.stop ≡ b → t.stop ≡ d → r.steps ≤ n → (r.stop ≡ true → r.steps < n) → (cond b r (further r t)).stop ≡ true → (cond b r (further r t)).steps < suc n
fewer_by true d n r t e f le h x = omega (arith, h e)
fewer_by false true n r t e f le h x = rw f (omega arith)
fewer_by false false n r t e f le h x = apart (sym x ∙ f)

fewer : (n : ℕ) (s : State) → (run_of n s).stop ≡ true → (run_of n s).steps < n
unfolding run_of onwards
fewer zero s h = apart (sym h)
fewer (suc n) s h =
    fewer_by (run_of n s).stop (step_of (run_of n s).last).stop n (run_of n s) (step_of (run_of n s).last) refl refl (run_going n s).most (fewer n s) h

not_stopped_by : (b : Bool) (n k : ℕ) (s : State) → (run_of k s).stop ≡ b → k ≤ n → k ≤ (run_of n s).steps → (run_of k s).stop ≡ false
not_stopped_by false n k s e le h = e
not_stopped_by true n k s e le h =
    let f : (run_of k s).steps < k = fewer k s e in
    let len : k + (n - k) ≡ n = omega arith in
    let same : run_of n s ≡ run_of k s = rw len at (stays k (n - k) s e) in
    let x : (run_of n s).steps ≡ (run_of k s).steps = ap (λ (r : Run). r.steps) same in
    absurd (omega arith)

not_stopped : (n k : ℕ) (s : State) → k ≤ (run_of n s).steps → (run_of k s).stop ≡ false
not_stopped n k s h = not_stopped_by (run_of k s).stop n k s refl (omega (arith, (run_going n s).most)) h

-- so the machine after k + 1 steps is one step after the machine after k
last_by : (b : Bool) (r : Run) → r.stop ≡ b → b ≡ false → (onwards r).last ≡ (step_of r.last).after
unfolding onwards
last_by false r e f = rw e
last_by true r e f = apart f

last_is : (k : ℕ) (s : State) → (run_of k s).stop ≡ false → (run_of (suc k) s).last ≡ (step_of (run_of k s).last).after
unfolding run_of
last_is k s e = last_by (run_of k s).stop (run_of k s) refl e

-- and its step does not stop
stop_by : (b : Bool) (r : Run) → r.stop ≡ b → b ≡ false → (onwards r).stop ≡ (step_of r.last).stop
unfolding onwards
stop_by false r e f = rw e
stop_by true r e f = apart f

stop_is : (k : ℕ) (s : State) → (run_of k s).stop ≡ false → (run_of (suc k) s).stop ≡ (step_of (run_of k s).last).stop
unfolding run_of
stop_is k s e = stop_by (run_of k s).stop (run_of k s) refl e

-- ---- the step that carries out a listed command
effect_is : (o : Op) (word : ℕ) (s : State) (x y z : ℕ) → o ≡ D.Command → outcome_of word ≡ Ok tt → (perform_of command_step (execute_of o (fields_of word) x y z s.control.product) s).after.geometry ≡ command_of word s.geometry
unfolding execute_of perform_of fields_of next_step
effect_is o word s x y z e d = rw (e, d)

carried : (word : ℕ) (s : State) → CarriesOut word s → outcome_of word ≡ Ok tt → (step_of s).after.geometry ≡ command_of word s.geometry
unfolding step_of issue_of
carried word s c d = rw (c.at_pc, c.usable) (effect_is (decode_of word) word s _ _ _ c.command d)

goes_done : (c : Command) (v r : ℕ) → Goes c v r → listed c ≡ Ok tt
goes_done c v r single = refl
goes_done c v r first = refl
goes_done c v r second = refl
goes_done c v r third = refl

done : (word v r : ℕ) → Goes (command_in word) v r → outcome_of word ≡ Ok tt
unfolding outcome_of
done word v r g = goes_done (command_in word) v r g

-- ---- step k + 1 of a run that completes it: t is the machine before it, u the one after
record At (i : List ℕ) (m : Memory) (k : ℕ) (t u : State) : Type 0 where
  before : (answer_of i m k).image ≡ image_of t
  before_memory : (answer_of i m k).memory ≡ t.memory
  after : (answer_of i m (suc k)).image ≡ image_of u
  after_memory : (answer_of i m (suc k)).memory ≡ u.memory
  formed : StateFormed t
  formed_after : StateFormed u
  goes : (step_of t).stop ≡ false
  step : u ≡ (step_of t).after

at_step : (i : List ℕ) (m : Memory) (n k : ℕ) → Accepted i → suc k ≤ steps_in (answer_of i m n) → At i m k (run_of k (machine_of i m)).last (run_of (suc k) (machine_of i m)).last
at_step i m n k a h =
    let s = machine_of i m in
    let p = completes i m n k h in
    let enough : suc k ≤ n = omega (arith, p.steps, (run_going n s).most) in
    let on : (run_of k s).stop ≡ false = not_stopped n k s (omega (arith, p.steps)) in
    let e : answer_of i m k ≡ finished (run_of k s) = answer_run i m k (admitted_for i m n k p.ok (omega (arith, p.most))) in
    let f : answer_of i m (suc k) ≡ finished (run_of (suc k) s) = answer_run i m (suc k) (admitted_for i m n (suc k) p.ok (omega (arith, p.most))) in
    record {
      before = ap (λ (x : Answer). x.image) e;
      before_memory = ap (λ (x : Answer). x.memory) e;
      after = ap (λ (x : Answer). x.image) f;
      after_memory = ap (λ (x : Answer). x.memory) f;
      formed = machine_at i m k a;
      formed_after = machine_at i m (suc k) a;
      goes = sym (stop_is k s on) ∙ not_stopped n (suc k) s p.steps;
      step = last_is k s on;
    }

-- what the step sees is the machine before it
machine_is : (i : List ℕ) (m : Memory) (k : ℕ) (t u : State) → At i m k t u → machine_of (answer_of i m k).image (answer_of i m k).memory ≡ t
machine_is i m k t u x = rw (x.before, x.before_memory) (machine_back t x.formed)

-- the registers of COP2 before it, and after it where it carries out a command
words_before : (i : List ℕ) (m : Memory) (k : ℕ) (t u : State) → At i m k t u → geometry_in (answer_of i m k).image ≡ t.geometry
words_before i m k t u x = rw x.before (geometry_back t x.formed)

words_after_lem : (i : List ℕ) (m : Memory) (k word : ℕ) (t u : State) → At i m k t u → CarriesOut word (machine_of (answer_of i m k).image (answer_of i m k).memory) → outcome_of word ≡ Ok tt → geometry_in (answer_of i m (suc k)).image ≡ command_of word t.geometry
words_after_lem i m k word t u x c d =
    let ct : CarriesOut word t = rw (machine_is i m k t u x) at c in
    rw x.after (geometry_back u x.formed_after ∙ ap (λ (y : State). y.geometry) x.step ∙ carried word t ct d)

-- ---- the theorems
pub run_demand_2 : Demand2
run_demand_2 i m n k a h =
    let t = (run_of k (machine_of i m)).last in
    let u = (run_of (suc k) (machine_of i m)).last in
    let x = at_step i m n k a h in
    let e = machine_is i m k t u x in
    record {
      goes = rw e x.goes;
      image = x.after ∙ ap image_of x.step ∙ ap (λ (y : State). image_of (step_of y).after) (sym e);
      memory_after = x.after_memory ∙ ap (λ (y : State). y.memory) x.step ∙ ap (λ (y : State). (step_of y).after.memory) (sym e);
      flag = λ word b c d.
          ap (λ (w : List ℕ). bit_at b (reg w 63)) (words_after_lem i m k word t u x c d)
          ∙ demand_2 word t.geometry (geometry_long t.geometry x.formed.geometry) d b
          ∙ ap (λ (w : List ℕ). condition b (checks_at word w)) (sym (words_before i m k t u x));
    }

pub run_demand_3 : Demand3
run_demand_3 i m n k word v r a h c sf clear g =
    let t = (run_of k (machine_of i m)).last in
    let u = (run_of (suc k) (machine_of i m)).last in
    let x = at_step i m n k a h in
    let step = words_after_lem i m k word t u x c (done word v r g) in
    let near = demand_3 word t.geometry (geometry_long t.geometry x.formed.geometry) sf (rw step at clear) v r g in
    subst (λ (w : List ℕ). Near tolerance w v (reg (geometry_in (answer_of i m (suc k)).image) r)) (sym (words_before i m k t u x))
    (subst (λ (w : List ℕ). Near tolerance t.geometry v (reg w r)) (sym step) near)

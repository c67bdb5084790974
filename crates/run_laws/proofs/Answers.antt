-- Laws of runs as a host sees them: what a call leaves is accepted again, and a run may be cut in two.
use Prim.Native.Nat.{ℕ, ◌+◌, ◌/◌, ◌%◌, ◌<◌, ◌≤◌}
use native.Mathlib.Omega.{arith}
use mathlib.Core.Bool.{Bool, true, false, cond, ◌||◌}
use mathlib.Core.List.{List}
use mathlib.Core.Path.{◌≡◌, refl, ap, ◌∙◌}
use lib.Dec.{eqb}
use Rattle.cpu_state.specs.State.{State}
use Rattle.memory.specs.Memory.{Memory}
use Rattle.memory.proofs.Lengths.{same, still_ok}
use Rattle.image.specs.Image.{machine_of, image_of}
use Rattle.run.specs.Run.{Run, run_of}
use Rattle.run.specs.Search.{search_of}
use Rattle.fliskadee.specs.Find.{Answer, answer, packed, find_of}
use Rattle.fliskadee.specs.Answer.{code_of, finished, answer_of}
use Rattle.image.specs.Refusals.{most_steps, refusal_of}
use Rattle.image.proofs.Refusals.{passed, admitted}
use Rattle.step_laws.specs.Formed.{StateFormed}
use Rattle.run_laws.specs.Runs.{joined, Accepted, Again, AcceptedAgain, FoundAgain, Cut, CutInTwo}
use Rattle.run_laws.proofs.Machine.{machine_formed, machine_back, image_accepted}
use Rattle.run_laws.proofs.Joins.{run_going, run_formed, then_more}
use Rattle.run_laws.proofs.Searches.{search_exact}

-- ---- a call that is not refused
pub answer_run : (i : List ℕ) (m : Memory) (count : ℕ) → refusal_of i m count ≡ 0 → answer_of i m count ≡ finished (run_of count (machine_of i m))
unfolding answer_of
answer_run i m count h = rw h

pub accepted_of : (i : List ℕ) (m : Memory) (count : ℕ) → refusal_of i m count ≡ 0 → Accepted i
accepted_of i m count h = let p = passed i m count h in record { long = p.long; formed = p.formed }

-- another count is not refused either, up to the most steps
pub admitted_for : (i : List ℕ) (m : Memory) (count n : ℕ) → refusal_of i m count ≡ 0 → n ≤ most_steps → refusal_of i m n ≡ 0
admitted_for i m count n h l =
    let p = passed i m count h in
    admitted i m n (record { long = p.long; formed = p.formed; memory = p.memory; most = l })

-- ---- accepted again
pub machine_at : (i : List ℕ) (m : Memory) (count : ℕ) → Accepted i → StateFormed (run_of count (machine_of i m)).last
machine_at i m count a = run_formed count (machine_of i m) (machine_formed i m a)

-- a refused call leaves what it was given
again_by : (b : Bool) (i : List ℕ) (m : Memory) (n : ℕ) (x : Answer) → Accepted i → Again m x → Again m (cond b x (answer n i m))
again_by true i m n x a h = h
again_by false i m n x a h = record { accepted = a; long = same m }

pub accepted_again : AcceptedAgain
unfolding answer_of
accepted_again i m count a =
    again_by (eqb (refusal_of i m count) 0) i m _ _ a
    (record { accepted = image_accepted _ (machine_at i m count a); long = (run_going count (machine_of i m)).long })

-- a search stands where a run of as many steps does
pub found_again : FoundAgain
unfolding find_of
found_again i m count mask a =
    let s = machine_of i m in
    let r = search_of mask count s in
    let e : (run_of r.steps s).last ≡ r.last = ap (λ (x : Run). x.last) (search_exact mask count s).reached in
    again_by (eqb (refusal_of i m count) 0) i m _ _ a
    (record { accepted = image_accepted r.last (rw (← e) (machine_at i m r.steps a)); long = rw (← e) (run_going r.steps s).long })

-- what a run leaves is not refused
admitted_again : (i : List ℕ) (m : Memory) (a b : ℕ) → refusal_of i m a ≡ 0 → b ≤ most_steps → refusal_of (image_of (run_of a (machine_of i m)).last) (run_of a (machine_of i m)).last.memory b ≡ 0
admitted_again i m a b h l =
    let x = image_accepted _ (machine_at i m a (accepted_of i m a h)) in
    admitted _ _ b (record { long = x.long; formed = x.formed; memory = still_ok _ _ (run_going a (machine_of i m)).long (passed i m a h).memory; most = l })

-- ---- the number, taken apart
pub steps_packed : (b : Bool) (n : ℕ) → n < 1048576 → packed (code_of b) n % 1048576 ≡ n
steps_packed true n h = omega arith
steps_packed false n h = omega arith

pub code_packed : (b : Bool) (n : ℕ) → n < 1048576 → packed (code_of b) n / 1048576 ≡ code_of b
code_packed true n h = omega arith
code_packed false n h = omega arith

codes : (b d : Bool) → code_of (b || d) ≡ cond (eqb (code_of b) 5) 5 (code_of d)
codes true d = refl
codes false d = refl

-- ---- a steps and then b
cut_runs : (r q : Run) (a b : ℕ) → a + b ≤ most_steps → r.steps ≤ a → q.steps ≤ b → Cut (finished r) (finished q) (finished (joined r q))
cut_runs r q a b h x y =
    let rs : r.steps < 1048576 = omega arith in
    let qs : q.steps < 1048576 = omega arith in
    let ws : r.steps + q.steps < 1048576 = omega arith in
    record {
      image = refl;
      memory = refl;
      steps = steps_packed (r.stop || q.stop) (r.steps + q.steps) ws ∙ rw (steps_packed r.stop r.steps rs, steps_packed q.stop q.steps qs);
      code = code_packed (r.stop || q.stop) (r.steps + q.steps) ws ∙ rw (code_packed r.stop r.steps rs, code_packed q.stop q.steps qs) (codes r.stop q.stop);
    }

pub cut_in_two : CutInTwo
cut_in_two i m a b ok h =
    let s = machine_of i m in
    let r = run_of a s in
    let g = machine_at i m a (accepted_of i m a ok) in
    let q = run_of b r.last in
    let first : answer_of i m a ≡ finished r = answer_run i m a ok in
    let second : answer_of (image_of r.last) r.last.memory b ≡ finished q =
    answer_run (image_of r.last) r.last.memory b (admitted_again i m a b ok (omega arith)) ∙ ap (λ (t : State). finished (run_of b t)) (machine_back r.last g) in
    let whole : answer_of i m (a + b) ≡ finished (joined r q) = answer_run i m (a + b) (admitted_for i m a (a + b) ok h) ∙ ap finished (then_more a b s) in
    rw (first, whole, second) (cut_runs r q a b h (run_going a s).most (run_going b r.last).most)

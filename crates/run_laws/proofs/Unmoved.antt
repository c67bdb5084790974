-- A run that completes no step leaves image and memory as they were: the image of the machine that was read is the image.
use Prim.Native.Nat.{ℕ, zero, suc, ◌+◌, ◌<◌}
use native.Mathlib.Omega.{arith}
use mathlib.Core.Bool.{Bool, true, false, cond}
use mathlib.Core.List.{List, ◌++◌}
use mathlib.Core.Path.{◌≡◌, refl, sym, ap, ◌∙◌}
use lib.Dec.{eqb}
use lib.ListN.{get_or}
use borrow.Author.Tests.{eqb-true}
use Rattle.byte_order.specs.Bytes.{words_at, bytes_of}
use Rattle.byte_order.proofs.Rows.{read_append, bytes_back}
use Rattle.memory.specs.Memory.{Memory}
use Rattle.cpu_state.specs.State.{State}
use Rattle.cpu_perform.specs.Perform.{Tick}
use Rattle.cpu_step.specs.Step.{step_of}
use Rattle.image.specs.Image.{registers_in, control_in, geometry_in, control_of, control_words, machine_of, image_of}
use Rattle.image.proofs.Facts.{formed_in}
use Rattle.run.specs.Run.{Run, further, onwards, run_of}
use Rattle.fliskadee.specs.Find.{answer}
use Rattle.fliskadee.specs.Answer.{finished, answer_of}
use Rattle.image.specs.Refusals.{refusal_of}
use Rattle.image.proofs.Refusals.{passed}
use Rattle.step_laws.proofs.Kept.{step_kept}
use Rattle.run_laws.specs.Runs.{Accepted, steps_in, Bytes, CountZero, NothingDone}
use Rattle.run_laws.proofs.Joins.{run_going}
use Rattle.run_laws.proofs.Answers.{answer_run, steps_packed}

-- the twelve control words, with word 43 zero
control_same : (m : List ℕ) → get_or (control_in m) 11 0 ≡ 0 → control_words (control_of (control_in m)) ≡ control_in m
unfolding words_at
control_same m h = rw h

words_same : (m : List ℕ) → registers_in m ++ (control_in m ++ geometry_in m) ≡ words_at m 0 108
words_same m = rw (read_append m 0 32 76, read_append m 128 12 64)

pub image_same : (i : List ℕ) (m : Memory) → Bytes i → Accepted i → image_of (machine_of i m) ≡ i
image_same i m b a =
    let f = formed_in (registers_in i) (control_in i) (geometry_in i) a.formed in
    ap (λ (w : List ℕ). bytes_of (registers_in i ++ (w ++ geometry_in i))) (control_same i f.last) ∙ ap bytes_of (words_same i) ∙ bytes_back 108 i b a.long

-- ---- no step: the machine is the one that was read
still_by : (b d : Bool) (r : Run) (t : Tick) (s : State) → r.stop ≡ b → t.stop ≡ d → (d ≡ true → t.after ≡ r.last) → (r.steps ≡ 0 → r.last ≡ s) → (cond b r (further r t)).steps ≡ 0 → (cond b r (further r t)).last ≡ s
still_by true d r t s e f k h z = h z
still_by false true r t s e f k h z = k refl ∙ h (rw f at z)
still_by false false r t s e f k h z = let y : r.steps + 1 ≡ 0 = rw f at z in absurd (omega arith)

still : (n : ℕ) (s : State) → (run_of n s).steps ≡ 0 → (run_of n s).last ≡ s
unfolding run_of onwards
still zero s z = refl
still (suc n) s z =
    still_by (run_of n s).stop (step_of (run_of n s).last).stop (run_of n s) (step_of (run_of n s).last) s refl refl (step_kept (run_of n s).last).stays (still n s) z

-- a refused call changes nothing, and one that completes no step leaves the machine that was read
unmoved_by : (t : Bool) (i : List ℕ) (m : Memory) (count n : ℕ) → Bytes i → Accepted i → eqb (refusal_of i m count) 0 ≡ t → steps_in (cond t (finished (run_of count (machine_of i m))) (answer n i m)) ≡ 0 → ((cond t (finished (run_of count (machine_of i m))) (answer n i m)).image ≡ i) × ((cond t (finished (run_of count (machine_of i m))) (answer n i m)).memory ≡ m)
unmoved_by true i m count n b a e z =
    let s = machine_of i m in
    let r = run_of count s in
    let most = (passed i m count (eqb-true _ 0 e)).most in
    let small : r.steps < 1048576 = omega (arith, (run_going count s).most) in
    let none : r.steps ≡ 0 = sym (steps_packed r.stop r.steps small) ∙ z in
    let l : r.last ≡ s = still count s none in
    rw l (image_same i m b a, refl)
unmoved_by false i m count n b a e z = (refl, refl)

pub nothing_done : NothingDone
unfolding answer_of
nothing_done i m count b a z = unmoved_by (eqb (refusal_of i m count) 0) i m count _ b a refl z

pub count_zero : CountZero
unfolding run_of
count_zero i m b h =
    let p = passed i m 0 h in
    answer_run i m 0 h ∙ ap (λ (x : List ℕ). answer 0 x m) (image_same i m b (record { long = p.long; formed = p.formed }))

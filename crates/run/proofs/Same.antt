-- With mask 0 no bit comes up, so a search is the run.
use Prim.Native.Nat.{ℕ, zero, suc, ◌+◌}
use mathlib.Core.Bool.{Bool, true, false, cond}
use mathlib.Core.Path.{◌≡◌, refl, ap, ◌∙◌}
use lib.Bits.{and_zero_r}
use lib.Dec.{eqb}
use Rattle.gte_registers.specs.Registers.{reg}
use Rattle.cpu_state.specs.State.{State}
use Rattle.cpu_perform.specs.Perform.{Tick}
use Rattle.cpu_step.specs.Step.{step_of}
use Rattle.run.specs.Run.{Run, ran, onwards, run_of}
use Rattle.run.specs.Search.{clear_of, rises_of, found_of, sought, search_on, search_of, searched_by}

clear : (s : State) → clear_of 0 s ≡ true
clear s = rw (and_zero_r (reg s.geometry 63))

never_rises : (s t : State) → rises_of 0 s t ≡ false
never_rises s t = rw (clear s, clear t)

step_by : (b d : Bool) (r : Run) (t : Tick) → r.stop ≡ b → t.stop ≡ d → cond (eqb (cond b 5 0) 0) (cond d (sought 5 r.steps t.after) (sought (found_of (rises_of 0 r.last t.after)) (r.steps + 1) t.after)) (sought (cond b 5 0) r.steps r.last) ≡ searched_by (cond b r (ran d (cond d r.steps (r.steps + 1)) t.after))
step_by true d r t e f = rw e
step_by false true r t e f = refl
step_by false false r t e f = rw (never_rises r.last t.after)

on : (r : Run) → search_on 0 (searched_by r) ≡ searched_by (onwards r)
unfolding search_on onwards
on r = step_by r.stop (step_of r.last).stop r (step_of r.last) refl refl

pub search_run : (n : ℕ) (s : State) → search_of 0 n s ≡ searched_by (run_of n s)
unfolding search_of run_of
search_run zero s = refl
search_run (suc n) s = ap (search_on 0) (search_run n s) ∙ on (run_of n s)

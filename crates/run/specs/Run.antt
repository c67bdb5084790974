-- A run: one step, iterated (01 "The run and its numbers").
use Rattle.std.specs.Prelude.{Bool, false, cond, ℕ, zero, suc, ◌+◌}
use Rattle.cpu_state.specs.State.{State}
use Rattle.cpu_perform.specs.Perform.{Tick}
use Rattle.cpu_step.specs.Step.{step_of}

-- whether the run stands before an unlisted COP2 command, the steps completed, and the machine after them
pub record Run : Type 0 where
  pub stop : Bool
  pub steps : ℕ
  pub last : State

abbrev pub ran : Bool → ℕ → State → Run
ran b n s = record { stop = b; steps = n; last = s }

-- a step that stops completes nothing
abbrev pub further : Run → Tick → Run
further r t = ran t.stop (cond t.stop r.steps (r.steps + 1)) t.after

-- one step more, unless the run has stopped
unfoldable pub onwards : Run → Run
onwards r = cond r.stop r (further r (step_of r.last))

unfoldable pub run_of : ℕ → State → Run
run_of zero s = ran false 0 s
run_of (suc n) s = onwards (run_of n s)

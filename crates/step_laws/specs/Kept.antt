-- What every step keeps, from any state: RAM and pad are as long as they were, and a step that stops before an unlisted COP2 command
-- changes nothing (01 "The run and its numbers", code 5).
use Rattle.std.specs.Prelude.{true, ◌≡◌}
use Rattle.memory.specs.Memory.{SameLengths}
use Rattle.cpu_state.specs.State.{State}
use Rattle.cpu_perform.specs.Perform.{Tick}
use Rattle.cpu_step.specs.Step.{step_of}

-- t is what a step from s leaves
pub record Kept (t : Tick) (s : State) : Type 0 where
  pub long : SameLengths t.after.memory s.memory
  pub stays : t.stop ≡ true → t.after ≡ s

abbrev pub StepKept : Type 0
StepKept = (s : State) → Kept (step_of s) s

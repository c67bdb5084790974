-- What a jump and a link do to the machine (01 "One step").
use Rattle.std.specs.Prelude.{ℕ}
use Rattle.cpu_state.specs.System.{none}
use Rattle.cpu_state.specs.State.{State, state}
use Rattle.cpu_effects.specs.Delay.{landed, with_register}
use Rattle.cpu_effects.specs.Flow.{jumped, with}

unfoldable pub jump_step : ℕ → State → State
jump_step t s =
    state (with (jumped s.control.flow t) none s.control) (landed s.control.pending s.registers) s.geometry s.memory

unfoldable pub link_step : ℕ → ℕ → ℕ → State → State
link_step n link t s =
    state (with (jumped s.control.flow t) none s.control) (with_register (landed s.control.pending s.registers) n link)
    s.geometry s.memory

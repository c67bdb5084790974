-- What an exception does to the machine (01 "One step").
use Rattle.std.specs.Prelude.{ℕ, ◌%◌}
use Rattle.cpu_state.specs.Exceptions.{raised_of, with_bad_address}
use Rattle.cpu_state.specs.State.{State, state}
use Rattle.cpu_effects.specs.Delay.{landed}

-- an exception: the waiting load lands
unfoldable pub trap_step : ℕ → ℕ → State → State
trap_step code unit s = state (raised_of s.control (code % 32) (unit % 4)) (landed s.control.pending s.registers) s.geometry s.memory

-- an address error has its address in BADV
unfoldable pub fault_step : ℕ → ℕ → State → State
fault_step code a s = trap_step code 0 (state (with_bad_address a s.control) s.registers s.geometry s.memory)

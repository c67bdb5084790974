-- What the other effects that stay inside the processor do to the machine (01 "One step").
use Rattle.std.specs.Prelude.{ℕ}
use Rattle.cpu_alu.specs.declared.mul_div.HiLo.{HiLo}
use Rattle.cpu_state.specs.System.{none}
use Rattle.cpu_state.specs.declared.control.System.{System}
use Rattle.cpu_state.specs.State.{State, state}
use Rattle.cpu_effects.specs.Delay.{landed, landed_unless, with_register, pending_of}
use Rattle.cpu_effects.specs.Flow.{onward, with}

unfoldable pub next_step : State → State
next_step s =
    state (with (onward s.control.flow) none s.control) (landed s.control.pending s.registers) s.geometry s.memory

unfoldable pub write_step : ℕ → ℕ → State → State
write_step n v s =
    state (with (onward s.control.flow) none s.control) (with_register (landed s.control.pending s.registers) n v) s.geometry
    s.memory

unfoldable pub product_step : HiLo → State → State
product_step h s =
    state (record { flow = onward s.control.flow; pending = none; system = s.control.system; product = h })
    (landed s.control.pending s.registers) s.geometry s.memory

unfoldable pub system_step : System → State → State
system_step y s =
    state (record { flow = onward s.control.flow; pending = none; system = y; product = s.control.product })
    (landed s.control.pending s.registers) s.geometry s.memory

-- a result that shows one instruction late
unfoldable pub wait_step : ℕ → ℕ → State → State
wait_step n v s =
    state (with (onward s.control.flow) (pending_of n v) s.control) (landed_unless s.control.pending s.registers n) s.geometry
    s.memory

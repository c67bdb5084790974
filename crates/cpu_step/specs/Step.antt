-- One step of the machine (01 "One step").
use Rattle.std.specs.Prelude.{true, false, cond, Result, Ok, Err, List, ℕ, get_or, length}
use Rattle.memory.specs.Addresses.{place_of}
use Rattle.memory.specs.Loads.{fetch_of}
use Rattle.memory.specs.Memory.{Memory}
use Rattle.memory.specs.declared.addresses.Fault.{Fault}
use Rattle.memory.specs.declared.addresses.Fault.TheVariants.{Bus, Address}
use Rattle.cpu_decode.specs.Decode.{decode_of, rs, rt}
use Rattle.cpu_decode.specs.Owners.{owner_of, number_of}
use Rattle.cpu_decode.specs.Fields.{fields_of}
use Rattle.cpu_execute.specs.Execute.{execute_of}
use Rattle.gte.specs.Commands.{outcome_of, command_of}
use Rattle.gte.specs.declared.Unlisted.{Unlisted}
use Rattle.cpu_state.specs.System.{user_of, usable_of}
use Rattle.cpu_state.specs.State.{State, state}
use Rattle.cpu_state.specs.declared.control.Control.{Control}
use Rattle.cpu_effects.specs.Traps.{trap_step, fault_step}
use Rattle.cpu_perform.specs.Perform.{geometry_step, Tick, tick, perform_of}

-- the machine after a step, from what the code answers: where it stops, the control state is as it was
abbrev pub stepped : Result Control Unlisted → Control → List ℕ → List ℕ → Memory → Tick
stepped (Ok d) c r g m = tick false (state d r g m)
stepped (Err e) c r g m = tick true (state c r g m)

abbrev pub after_command : Result (Unit {0}) Unlisted → ℕ → State → Tick
after_command (Ok x) word s = tick false (geometry_step (command_of word s.geometry) s)
after_command (Err e) word s = tick true s

abbrev pub command_step : ℕ → State → Tick
command_step word s = after_command (outcome_of word) word s

-- the word that was fetched: CpU comes before all that the word would do
unfoldable pub issue_of : ℕ → State → Tick
issue_of word s =
    let c = s.control in
    cond (usable_of (owner_of word) c.system)
    (perform_of command_step
    (execute_of (decode_of word) (fields_of word) (get_or s.registers (rs word) 0) (get_or s.registers (rt word) 0) c.flow.next c.product)
    s)
    (tick false (trap_step 11 (number_of (owner_of word)) s))

-- the word at PC
abbrev pub fetched : State → Result ℕ Fault
fetched s = fetch_of s.memory.ram (place_of s.control.flow.pc 4 (user_of s.control.system) (length s.memory.ram))

abbrev pub after_fetch : State → Result ℕ Fault → Tick
after_fetch s (Ok word) = issue_of word s
after_fetch s (Err Bus) = tick false (trap_step 6 0 s)
after_fetch s (Err Address) = tick false (fault_step 4 s.control.flow.pc s)

unfoldable pub step_of : State → Tick
step_of s = after_fetch s (fetched s)

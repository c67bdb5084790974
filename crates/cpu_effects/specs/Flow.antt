-- PC and next PC (01 "One step").
use Rattle.std.specs.Prelude.{ℕ}
use Rattle.cpu_alu.specs.Modular.{add}
use Rattle.cpu_state.specs.declared.control.Flow.{Flow}
use Rattle.cpu_state.specs.declared.control.Pending.{Pending}
use Rattle.cpu_state.specs.declared.control.Control.{Control}

-- ---- PC takes next PC; next PC takes itself plus 4, or the target
abbrev pub onward : Flow → Flow
onward f = record { pc = f.next; next = add f.next 4; slot = 0 }

abbrev pub jumped : Flow → ℕ → Flow
jumped f target = record { pc = f.next; next = target; slot = 1 }

-- a control state with another PC and another load that waits
abbrev pub with : Flow → Pending → Control → Control
with f p c = record { flow = f; pending = p; system = c.system; product = c.product }

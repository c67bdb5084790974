-- The machine.
use Rattle.std.specs.Prelude.{ℕ, List}
use Rattle.memory.specs.Memory.{Memory}
use Rattle.cpu_state.specs.declared.control.Control.{Control}

-- registers: the 32 general ones; geometry: the 64 words of COP2 as reads return them
pub record State : Type 0 where
  pub control : Control
  pub registers : List ℕ
  pub geometry : List ℕ
  pub memory : Memory

abbrev pub state : Control → List ℕ → List ℕ → Memory → State
state c r g m = record { control = c; registers = r; geometry = g; memory = m }

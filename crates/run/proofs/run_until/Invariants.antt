-- After i turns the machine is where a search of i steps stands, and goes on.
use Rattle.memory.specs.Memory.{memory}
use Rattle.gte_registers.specs.Registers.{view}
use Rattle.cpu_state.specs.State.{state}
use Rattle.run.proofs.Turns.{After}
use Rattle.run.proofs.run_until.Given as goal

abbrev pub invariant-loop-i : goal.invariant-loop-i
invariant-loop-i l = After l.mask l.count l.i l.clear (state l.initial.c l.initial.r (view l.initial.g) (memory l.initial.ram l.initial.pad)) (state l.c l.r (view l.g) (memory l.ram l.pad))

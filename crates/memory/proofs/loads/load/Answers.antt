-- Where RAM answers a bus error, the address is beyond RAM.
use mathlib.Core.Path.{ap, ◌∙◌}
use Rattle.std.specs.Prelude.{Err}
use Rattle.memory.proofs.LoadsBeyond.{load_passed}
use Rattle.memory.proofs.loads.load.Goals as goal

pub load_beyond-requires-clause-k_value : goal.load_beyond-requires-clause-k_value
load_beyond-requires-clause-k_value c = let b = c.in-Err-Bus in (load_passed _ _ _ _ _ _ _ _ c.load_ram.ensures (b.is ∙ ap Err b.field-0-is)).aligned

pub returns-in-Err-Bus : goal.returns-in-Err-Bus
returns-in-Err-Bus c = let b = c.in-Err-Bus in rw (load_passed _ _ _ _ _ _ _ _ c.load_ram.ensures (b.is ∙ ap Err b.field-0-is)).is (c.load_beyond.ensures c.args.ram.now)

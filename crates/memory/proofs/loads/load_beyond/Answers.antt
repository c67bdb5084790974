-- What lies beyond RAM lies in the pad, aligned.
use mathlib.Core.Path.{sym, ap, ◌∙◌}
use Rattle.std.specs.Prelude.{Ok}
use Rattle.memory.proofs.LoadsAligned.{load_keeps}
use Rattle.memory.proofs.Places.{not_ram, in_pad_lem, pad_aligned}
use Rattle.memory.proofs.loads.load_beyond.Goals as goal
use native.Mathlib.Omega.{arith}

pub unreachable-requires : goal.unreachable-requires
unreachable-requires c = not_ram _ _ (sym (sym c.beyond_ram.ensures ∙ (c.in_ok-beyond_ram.was ∙ ap Ok c.in-Ram.is)))

pub pad_place-requires : goal.pad_place-requires
pad_place-requires c = (in_pad_lem _ _ (sym (sym c.beyond_ram.ensures ∙ (c.in_ok-beyond_ram.was ∙ ap Ok c.in-Pad.is)))).above

pub read-requires-clause-at_in_bounds : goal.read-requires-clause-at_in_bounds
read-requires-clause-at_in_bounds c = let i = in_pad_lem _ _ (sym (sym c.beyond_ram.ensures ∙ (c.in_ok-beyond_ram.was ∙ ap Ok c.in-Pad.is))) in omega (arith, i.above, i.below)

pub read-requires-clause-k_value : goal.read-requires-clause-k_value
read-requires-clause-k_value c = let i = in_pad_lem _ _ (sym (sym c.beyond_ram.ensures ∙ (c.in_ok-beyond_ram.was ∙ ap Ok c.in-Pad.is))) in rw c.pad_place.ensures (pad_aligned _ _ _ (load_keeps c.args.k) c.requires.k_value i)

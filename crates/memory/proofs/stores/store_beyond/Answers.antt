-- What lies beyond RAM lies in the pad, aligned.
use mathlib.Core.Path.{sym, ap, ◌∙◌}
use Rattle.std.specs.Prelude.{Ok}
use Rattle.memory.proofs.StoresAligned.{store_keeps}
use Rattle.memory.proofs.Places.{not_ram, in_pad_lem, pad_aligned}
use Rattle.memory.proofs.stores.store_beyond.Goals as goal
use native.Mathlib.Omega.{arith}

pub unreachable-requires : goal.unreachable-requires
unreachable-requires c = not_ram _ _ (sym (sym c.beyond_ram.ensures ∙ (c.in_ok-beyond_ram.was ∙ ap Ok c.in-Ram.is)))

pub pad_place-requires : goal.pad_place-requires
pad_place-requires c = (in_pad_lem _ _ (sym (sym c.beyond_ram.ensures ∙ (c.in_ok-beyond_ram.was ∙ ap Ok c.in-Pad.is)))).above

pub write-requires-clause-at_in_bounds : goal.write-requires-clause-at_in_bounds
write-requires-clause-at_in_bounds c = let i = in_pad_lem _ _ (sym (sym c.beyond_ram.ensures ∙ (c.in_ok-beyond_ram.was ∙ ap Ok c.in-Pad.is))) in omega (arith, i.above, i.below)

pub write-requires-clause-k_value : goal.write-requires-clause-k_value
write-requires-clause-k_value c = let i = in_pad_lem _ _ (sym (sym c.beyond_ram.ensures ∙ (c.in_ok-beyond_ram.was ∙ ap Ok c.in-Pad.is))) in rw c.pad_place.ensures (pad_aligned _ _ _ (store_keeps c.args.k) c.requires.k_value i)

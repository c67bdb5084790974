-- A place that is found lies in RAM, aligned, and RAM is whole words.
use mathlib.Core.Path.{sym, ap, ◌∙◌}
use Rattle.std.specs.Prelude.{Ok}
use Rattle.memory.proofs.StoresAligned.{store_keeps}
use Rattle.memory.proofs.Places.{below, aligned, ram_words}
use Rattle.memory.proofs.stores.store_ram.Goals as goal

pub write-requires-clause-m_len : goal.write-requires-clause-m_len
write-requires-clause-m_len c = ram_words _ c.requires

pub write-requires-clause-at_in_bounds : goal.write-requires-clause-at_in_bounds
write-requires-clause-at_in_bounds c = below _ _ _ _ _ (sym c.locate.ensures ∙ (c.in_ok-p.was ∙ ap Ok c.in-Ram.is))

pub write-requires-clause-k_value : goal.write-requires-clause-k_value
write-requires-clause-k_value c = rw (← c.align.ensures.is) (aligned _ _ _ _ _ (rw c.align.ensures.is (store_keeps c.args.k)) (sym c.locate.ensures ∙ (c.in_ok-p.was ∙ ap Ok c.in-Ram.is)))

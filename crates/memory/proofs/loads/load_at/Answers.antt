-- A place that is found lies in RAM, aligned, and RAM is whole words.
use mathlib.Core.Path.{sym, ap, ◌∙◌}
use Rattle.std.specs.Prelude.{Ok}
use Rattle.memory.proofs.LoadsAligned.{load_keeps}
use Rattle.memory.proofs.Places.{below, aligned, ram_words}
use Rattle.memory.proofs.loads.load_at.Goals as goal

pub read-requires-clause-m_len : goal.read-requires-clause-m_len
read-requires-clause-m_len c = ram_words _ c.requires

pub read-requires-clause-at_in_bounds : goal.read-requires-clause-at_in_bounds
read-requires-clause-at_in_bounds c = below _ _ _ _ _ (sym c.locate.ensures ∙ (c.in_ok-p.was ∙ ap Ok c.in-Ram.is))

pub read-requires-clause-k_value : goal.read-requires-clause-k_value
read-requires-clause-k_value c = rw (← c.align.ensures.is) (aligned _ _ _ _ _ (rw c.align.ensures.is (load_keeps c.args.k)) (sym c.locate.ensures ∙ (c.in_ok-p.was ∙ ap Ok c.in-Ram.is)))

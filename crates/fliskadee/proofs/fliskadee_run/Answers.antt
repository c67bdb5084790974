-- The run is the search with mask 0.
use mathlib.Core.Path.{◌∙◌}
use Rattle.fliskadee.proofs.Answers.{find_run}
use Rattle.fliskadee.proofs.fliskadee_run.Goals as goal

pub returns : goal.returns
returns c = rw c.packed.ensures (c.run_with.ensures.is ∙ find_run _ _ _)

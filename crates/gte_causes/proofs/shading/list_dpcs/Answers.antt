-- It starts from RGBC.
use Rattle.gte_colour.proofs.CueingLines.{code}
use Rattle.gte_causes.proofs.shading.list_dpcs.Goals as goal

pub returns : goal.returns
returns c = rw (c.levels.ensures.is, code c.args.c.now) at c.list_cue.ensures

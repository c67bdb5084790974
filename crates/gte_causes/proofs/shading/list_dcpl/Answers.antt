-- It starts from RGBC times IR.
use Rattle.gte_colour.proofs.CueingLines.{code}
use Rattle.gte_causes.proofs.shading.list_dcpl.Goals as goal

pub returns : goal.returns
returns c = rw (c.tones.ensures.is, c.ir.ensures, code c.args.c.now) at c.list_cue.ensures

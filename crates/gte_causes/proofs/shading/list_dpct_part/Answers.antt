-- It starts from the queue's colour.
use Rattle.gte_shading.proofs.Queue.{place}
use Rattle.gte_causes.proofs.shading.list_dpct_part.Goals as goal

pub returns : goal.returns
returns c = let a = c.args in
    rw (c.levels.ensures.is, place a.c.now a.k c.requires.1) at c.list_cue.ensures

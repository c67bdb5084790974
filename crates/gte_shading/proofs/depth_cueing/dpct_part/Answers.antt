-- The depth cue of the colour that stands at that place of the queue.
use Rattle.gte_shading.proofs.Queue.{place}
use Rattle.gte_shading.proofs.depth_cueing.dpct_part.Goals as goal

pub returns : goal.returns
returns c =
    let a = c.args in
    rw (c.cue.ensures, c.levels.ensures.is, place a.c.now a.k c.requires)

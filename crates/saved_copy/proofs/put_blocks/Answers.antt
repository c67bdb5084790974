-- The loop keeps that the blocks of what is left give all of them.
use Rattle.saved_copy.proofs.Blocks.{putting_none, putting_more, putting_all}
use Rattle.saved_copy.proofs.put_blocks.Goals as goal

pub loop-block-init : goal.loop-block-init
loop-block-init c = putting_none _ _ _ _ _ (cc) (cc) c.requires.0 c.requires.1

pub loop-block-preserved : goal.loop-block-preserved
loop-block-preserved c =
    let s = c.in-Some.ensures.steps in
    putting_more _ _ _ _ _ _ _ _ _ c.loop-block.invariant s.1.0 s.1.1 s.1.2 _ _ c.put_field.ensures s.0

pub returns : goal.returns
returns c = putting_all _ _ _ _ _ _ _ c.loop-block.invariant c.in-None.ensures.steps.1.0

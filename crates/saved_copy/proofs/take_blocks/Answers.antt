-- The loop keeps that the blocks that are left give the rest of RAM.
use Prim.Native.Nat.{◌+◌, ◌-◌, ◌*◌}
use native.Mathlib.Omega.{arith}
use lib.ListN.{length}
use Rattle.saved_copy.proofs.Blocks.{taking_none, taking_all, part_fits, taking_more}
use Rattle.saved_copy.proofs.take_blocks.Goals as goal

pub loop-block-init : goal.loop-block-init
loop-block-init c =
    taking_none c.args.ram.now c.args.file.now _ c.args.from (c.args.from + length c.args.ram.now + 3 * c.div_ceil.result - c.args.from) _ (cc) (cc) c.requires.0 (omega (arith, c.div_ceil.ensures)) (omega (arith, c.div_ceil.ensures))

pub slice_bounds-copy-start : goal.slice_bounds-copy-start
slice_bounds-copy-start c = let s = c.in-Some.ensures.steps in (part_fits _ _ _ _ _ _ _ _ c.loop-block.invariant s.1.0 s.1.1 s.1.2).0

pub copy-requires : goal.copy-requires
copy-requires c = let s = c.in-Some.ensures.steps in (part_fits _ _ _ _ _ _ _ _ c.loop-block.invariant s.1.0 s.1.1 s.1.2).1

pub loop-block-preserved : goal.loop-block-preserved
loop-block-preserved c =
    let s = c.in-Some.ensures.steps in
    taking_more _ _ _ _ _ _ _ _ c.loop-block.invariant s.1.0 s.1.1 s.1.2 _ _ c.copy.ensures s.0

pub returns : goal.returns
returns c = taking_all _ _ _ _ _ _ c.loop-block.invariant c.in-None.ensures.steps.1.0

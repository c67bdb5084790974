-- The loop keeps that the blocks that are left give the rest of RAM.
use Rattle.std.specs.Slice.Iter.{chunks_rest, chunks_size}
use lib.ListN.{length, drop}
use Rattle.saved_format.specs.Writing.{full_blocks, ram_in}
use Rattle.saved_copy.proofs.Blocks.{Taking}
use Rattle.saved_copy.proofs.take_blocks.Given as goal

abbrev pub invariant-loop-block : goal.invariant-loop-block
invariant-loop-block l =
    Taking l.initial.ram l.ram (ram_in (full_blocks (length l.initial.ram)) (length l.initial.ram) (drop l.from l.file)) (chunks_rest l.block-iterator) l.done (chunks_size l.block-iterator)

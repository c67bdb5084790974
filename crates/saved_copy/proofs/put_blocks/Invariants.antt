-- The loop keeps that the blocks of what is left give all of them.
use Rattle.std.specs.Slice.Iter.{chunks_rest, chunks_size}
use Rattle.saved_copy.proofs.Blocks.{Putting}
use Rattle.saved_copy.proofs.put_blocks.Given as goal

abbrev pub invariant-loop-block : goal.invariant-loop-block
invariant-loop-block l = Putting l.initial.out l.out l.from l.at l.ram (chunks_rest l.block-iterator) (chunks_size l.block-iterator)

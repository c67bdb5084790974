-- The rows of the bits that are left, added to what is listed, are all the rows.
use Rattle.causes.proofs.Loop.{going_next, going_last}
use Rattle.causes.proofs.list_bits.Goals as goal

pub loop-bit-preserved : goal.loop-bit-preserved
loop-bit-preserved c = going_next c.loop-bit-test.true c.loop-bit.invariant c.list_bit.ensures

pub returns-clause-is : goal.returns-clause-is
returns-clause-is c = going_last c.loop-bit-test.false c.loop-bit.invariant

-- The rows of the bits that are left, added to what is listed, are all the rows.
use Rattle.gte_causes.specs.Causes.{parts_at}
use Rattle.causes.proofs.Loop.{Going}
use Rattle.causes.proofs.list_bits.Given as goal

abbrev pub invariant-loop-bit : goal.invariant-loop-bit
invariant-loop-bit l = Going (parts_at l.word l.c) l.initial.rows l.rows l.bit

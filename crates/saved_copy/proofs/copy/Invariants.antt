-- The loop keeps that what is left to store gives what was to be stored.
use Rattle.saved_copy.proofs.Copying.{Copying}
use Rattle.saved_copy.proofs.copy.Given as goal

abbrev pub invariant-loop-i : goal.invariant-loop-i
invariant-loop-i l = Copying l.initial.dst l.dst l.at l.src l.i

-- The words that are read are packets, and their number is the count.
use Prim.Native.Nat.{◌-◌}
use lib.ListN.{length}
use Rattle.draw_list.proofs.Splits.{Read}
use Rattle.draw_list.proofs.packets.Given as goal

abbrev pub invariant-loop-at : goal.invariant-loop-at
invariant-loop-at l = Read l.words l.at l.count

abbrev pub decreases-loop-at : goal.decreases-loop-at
decreases-loop-at l = length l.words - l.at

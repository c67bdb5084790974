-- What is passed has no 55555555h.
use Prim.Native.Nat.{◌+◌}
use mathlib.Core.Path.{◌≡◌}
use lib.ListN.{drop}
use Rattle.draw_list.specs.Widths.{points_of}
use Rattle.draw_list.proofs.stop_from.Given as goal

abbrev pub invariant-loop-i : goal.invariant-loop-i
invariant-loop-i l = l.from + points_of (drop l.from l.words) ≡ l.i + points_of (drop l.i l.words)

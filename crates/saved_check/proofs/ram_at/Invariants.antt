-- The loop keeps that the verdict on the file from `at` on is the verdict from `from` on.
use Rattle.std.specs.Prelude.{Result}
use Prim.Native.Nat.{◌-◌, ◌≤◌}
use lib.ListN.{length}
use Rattle.saved_format.specs.Tails.{Ram}
use Rattle.saved_check.specs.Check.{Judged}
use Rattle.saved_check.specs.declared.Malformed.{Malformed}
use Rattle.saved_check.proofs.ram_at.Given as goal

abbrev pub invariant-loop-next : goal.invariant-loop-next
invariant-loop-next l = (l.at ≤ length l.file) × ((v : Result Unit Malformed) → Judged Ram l.file l.at v → Judged Ram l.file l.from v)

abbrev pub decreases-loop-next : goal.decreases-loop-next
decreases-loop-next l = length l.file - l.at

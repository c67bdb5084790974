-- What commands write, and nothing else. FLAG is cleared as a command begins, so the flags of its own checks are all that
-- register 63 holds afterwards.
use Rattle.std.specs.Prelude.{List, ℕ, set}
use Rattle.std.specs.Int.{w32}
use Rattle.std.proofs.Common.{of_z}
use Rattle.gte_arithmetic.specs.Triples.{Vector, Long}
use Rattle.gte_arithmetic.specs.declared.values.Line.{Line}

-- MAC1..3 and IR1..3
unfoldable pub stored : Long → Vector → List ℕ → List ℕ
stored m i w =
    set (set (set (set (set (set w 25 (of_z w32 m.x)) 26 (of_z w32 m.y)) 27 (of_z w32 m.z))
    9 (of_z w32 i.x)) 10 (of_z w32 i.y)) 11 (of_z w32 i.z)

unfoldable pub flagged : ℕ → List ℕ → List ℕ
flagged f w = set w 63 f

-- MVMVA, SQR, OP
unfoldable pub line_left : Line → List ℕ → List ℕ
line_left l w = flagged l.flag (stored l.mac l.ir w)

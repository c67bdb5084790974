-- The flags of NCS: a bit may be set twice.
use mathlib.Core.Path.{◌≡◌}
use mathlib.Core.Bool.{Bool}
use Prim.Native.Nat.{ℕ}
use Rattle.gte_arithmetic.specs.Checks.{or, flags}
use Rattle.gte_line.specs.Line.{line_checks, line_checks_at}
use Rattle.gte_arithmetic.specs.Triples.{Wide}
use Rattle.gte_arithmetic.proofs.Flags.{or_assoc, or_comm, or_left_comm, or_same}
use Rattle.gte_colour.specs.Shade.{shade_checks}
use Rattle.gte_lighting.specs.Normals.{last_checks}

-- three cells, then their third bits again with others between
again : (a b c d e f g h i p q r : ℕ)
    → or (or a (or b (or c (or d (or e (or f (or g (or h (or i 0))))))))) (or c (or p (or f (or q (or i (or r 0))))))
    ≡ or a (or b (or c (or p (or d (or e (or f (or q (or g (or h (or i (or r 0)))))))))))
again a b c d e f g h i p q r = simp (or_assoc, or_comm, or_left_comm, or_same)

-- IR is limited twice from the same MAC
pub last_flags : (n m : ℕ) (sf lm : Bool) (s : Wide)
    → or (flags (line_checks n sf lm s)) (flags (last_checks m sf lm s)) ≡ flags (shade_checks 0 0 sf lm s)
unfolding flags line_checks_at last_checks shade_checks
last_flags n m sf lm s = again _ _ _ _ _ _ _ _ _ _ _ _

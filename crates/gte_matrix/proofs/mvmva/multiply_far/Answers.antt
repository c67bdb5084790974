-- The flags of the full sum and those of the line of third products, which are too small to fail the test of a sum.
use mathlib.Core.Path.{◌≡◌, refl}
use mathlib.Core.Bool.{Bool, false}
use Prim.Native.Nat.{ℕ, ◌-◌, ◌^◌}
use lib.IntN.{ℤ, pos, negsuc}
use lib.Signed.{lt_z}
use Rattle.integers.specs.Parts.{Mag, pos_part, neg_part, zarith, no_lt}
use Rattle.gte_arithmetic.specs.Checks.{or, flags}
use Rattle.gte_line.specs.Line.{line_with, line_of, line_checks, line_checks_at}
use Rattle.gte_sums.specs.Sums.{Bounded, product_of}
use Rattle.gte_arithmetic.specs.Triples.{Wide}
use Rattle.gte_arithmetic.proofs.Flags.{or_assoc, or_none, none_or, or_left_comm}
use Rattle.gte_matrix.specs.Multiply.{thirds_of, sum_flags, far_checks, far_of}
use Rattle.gte_matrix.proofs.mvmva.multiply_far.Goals as goal

not_above : (x : ℤ) → Mag x (2 ^ 43) → lt_z (pos (2 ^ 43 - 1)) x ≡ false
unfolding pos_part neg_part
not_above x h = no_lt {a = pos (2 ^ 43 - 1)} {b = x} (omega zarith)

not_below : (x : ℤ) → Mag x (2 ^ 43) → lt_z x (negsuc (2 ^ 43 - 1)) ≡ false
unfolding pos_part neg_part
not_below x h = no_lt {a = x} {b = negsuc (2 ^ 43 - 1)} (omega zarith)

-- sums in pairs, then IR: in the order of the checks

order : (a b c d e f i j k : ℕ)
    → or (or a (or b (or c (or d (or e (or f 0)))))) (or 0 (or 0 (or i (or 0 (or 0 (or j (or 0 (or 0 (or k 0)))))))))
    ≡ or a (or b (or i (or c (or d (or j (or e (or f (or k 0))))))))
order a b c d e f i j k = simp (or_assoc, or_none, none_or, or_left_comm)

flag_is : (sf lm : Bool) (s t : Wide) → Bounded (2 ^ 43) t → or (sum_flags s) (flags (line_checks 0 sf lm t)) ≡ flags (far_checks sf lm s t)
unfolding sum_flags far_checks line_checks_at flags
flag_is sf lm s t h =
    rw (
      not_above t.x h.x,
      not_above t.y h.y,
      not_above t.z h.z,
      not_below t.x h.x,
      not_below t.y h.y,
      not_below t.z h.z,
    ) (order _ _ _ _ _ _ _ _ _)

joined : (sf lm : Bool) (s t : Wide) → Bounded (2 ^ 43) t → let l = line_of sf lm t in record { mac = l.mac; ir = l.ir; flag = or (sum_flags s) l.flag } ≡ line_with (far_checks sf lm s t) l
unfolding line_of
joined sf lm s t h = rw (flag_is sf lm s t h) refl

pub returns : goal.returns
unfolding far_of or
returns c =
    let a = c.args in
    rw (c.sum_flags-f.ensures, c.finish-l.ensures, c.product.ensures.is, c.thirds.ensures.is)
    (joined a.sf a.lm (product_of a.m a.t a.v) (thirds_of a.m a.v) (rw c.thirds.ensures.is at c.thirds.ensures.small))

-- Every check of every command has a bit of 12..30, in each part the checks of one bit stand on rising lines, and there are at most 117:
-- one computed test for each command.
use mathlib.Core.Bool.{Bool, true, false, cond, ◌&&◌}
use mathlib.Core.List.{List, [], ◌∷◌}
use mathlib.Core.Path.{◌≡◌, refl}
use Prim.Native.Nat.{ℕ, ◌≤◌}
use borrow.Author.Tests.{leb-true}
use lib.Dec.{leb, eqb}
use Rattle.gte_arithmetic.specs.Checks.{Check}
use Rattle.gte_line.specs.Line.{line_checks_at}
use Rattle.gte_colour.specs.Shade.{shade_checks}
use Rattle.gte_inputs.specs.Inputs.{Inputs}
use Rattle.gte_colour.specs.Cueing.{cued_checks}
use Rattle.gte_lighting.specs.Normals.{ncs_checks, last_checks}
use Rattle.gte_matrix.specs.Multiply.{far_checks}
use Rattle.gte_depth.specs.Depth.{average_checks}
use Rattle.gte_perspective.specs.Projection.{vertex_checks}
use Rattle.gte_perspective.specs.Perspective.{screen_checks}
use Rattle.gte.specs.Commands.{Command, RTPS, NCLIP, OP, DPCS, INTPL, MVMVA, NCDS, CDP, NCDT, NCCS, CC, NCS, NCT, SQR, DCPL, DPCT, AVSZ3, AVSZ4, RTPT, GPF, GPL, NCCT, unlisted, parts_of, cv_of}
use Rattle.cause_laws.proofs.Tests.{and_1, and_2, ranged, all_ranged, fine}
use Rattle.cause_laws.specs.Rows.{In, here, later, PartFrom, first, next}

in_ranged : {c : Check} {cs : List Check} → In c cs → ranged cs ≡ true → (12 ≤ c.bit) × (c.bit ≤ 30)
in_ranged {c} (here {xs}) e =
    let h = and_1 (leb 12 c.bit && leb c.bit 30) (ranged xs) e in
    (leb-true 12 c.bit (and_1 (leb 12 c.bit) (leb c.bit 30) h), leb-true c.bit 30 (and_2 (leb 12 c.bit) (leb c.bit 30) h))
in_ranged (later {x} {xs} i) e = in_ranged i (and_2 (leb 12 x.bit && leb x.bit 30) (ranged xs) e)

pub part_ranged : {c : Check} {cs : List Check} {n p : ℕ} {parts : List (List Check)} → PartFrom cs n p parts → In c cs → all_ranged parts ≡ true → (12 ≤ c.bit) × (c.bit ≤ 30)
part_ranged {c} {cs} (first {p} {parts}) i e = in_ranged i (and_1 (ranged cs) (all_ranged parts) e)
part_ranged (next {n} {p} {ds} {parts} q) i e = part_ranged q i (and_2 (ranged ds) (all_ranged parts) e)

either : (t : Bool) (p q : List Check) → fine (p ∷ []) ≡ true → fine (q ∷ []) ≡ true → fine (cond t p q ∷ []) ≡ true
either true p q e f = e
either false p q e f = f

pub all_fine : (c : Command) (sf lm : Bool) (word : ℕ) (i : Inputs) → fine (parts_of c sf lm word i) ≡ true
unfolding parts_of line_checks_at shade_checks cued_checks ncs_checks last_checks far_checks average_checks vertex_checks screen_checks
all_fine RTPS sf lm word i = refl
all_fine NCLIP sf lm word i = refl
all_fine OP sf lm word i = refl
all_fine DPCS sf lm word i = refl
all_fine INTPL sf lm word i = refl
all_fine MVMVA sf lm word i = either (eqb (cv_of word) 2) _ _ refl refl
all_fine NCDS sf lm word i = refl
all_fine CDP sf lm word i = refl
all_fine NCDT sf lm word i = refl
all_fine NCCS sf lm word i = refl
all_fine CC sf lm word i = refl
all_fine NCS sf lm word i = refl
all_fine NCT sf lm word i = refl
all_fine SQR sf lm word i = refl
all_fine DCPL sf lm word i = refl
all_fine DPCT sf lm word i = refl
all_fine AVSZ3 sf lm word i = refl
all_fine AVSZ4 sf lm word i = refl
all_fine RTPT sf lm word i = refl
all_fine GPF sf lm word i = refl
all_fine GPL sf lm word i = refl
all_fine NCCT sf lm word i = refl
all_fine unlisted sf lm word i = refl

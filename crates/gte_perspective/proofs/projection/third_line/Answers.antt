-- A depth of 0..7FFFh is stored whole in MAC3, IR3 and SZ3, from a sum far from the ends of 44 bits.
use borrow.Author.Tests.{not-true}
use mathlib.Core.Path.{◌≡◌, sym, ◌∙◌}
use mathlib.Core.Bool.{true, false}
use lib.IntN.{pos}
use lib.Signed.{shr_z}
use mir.Syntax.{w16, w32, w64}
use mir.Val.{SFits}
use mir.Facts.{to_z-of_z}
use Rattle.integers.specs.Bound.{back, fit}
use Rattle.integers.specs.Clamp.{outside}
use Rattle.gte_line.proofs.Plain.{ir_mag}
use Rattle.gte_perspective.proofs.Plain.{third_plain}
use Rattle.gte_perspective.proofs.projection.third_line.Goals as goal

pub returns-then-within : goal.returns-then-within
returns-then-within c =
    let is_z : c.shift_down-z.result ≡ shr_z c.args.x 4096 = rw (to_z-of_z c.ranges.x) at c.shift_down-z.ensures in
    let clear : c.within.result ≡ true → outside (pos 0) (pos 0x7fff) (shr_z c.args.x 4096) ≡ false = λ e. not-true _ (sym (rw (back w64 c.shift_down-z.result c.shift_down-z.type_inv, is_z) at c.within.ensures) ∙ e) in
    let word : c.within.result ≡ true → SFits w32 c.shift_down-z.result = λ e. rw is_z (fit w32 (ir_mag true _ (clear e)) tt) in
    let short : c.within.result ≡ true → SFits w16 c.shift_down-z.result = λ e. rw is_z (fit w16 (ir_mag true _ (clear e)) tt) in
    rw (
      back w64 c.shift_down-z.result c.shift_down-z.type_inv,
      to_z-of_z (word c.if-within.true),
      to_z-of_z (short c.if-within.true),
      is_z,
      c.if-sf.true,
    ) (third_plain _ (clear c.if-within.true))

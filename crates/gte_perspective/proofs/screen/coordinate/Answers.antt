-- A coordinate on the screen is not limited, and its exact value is far from the ends of MAC0.
use borrow.Author.Tests.{not-true}
use mathlib.Core.Path.{◌≡◌, sym, ◌∙◌}
use mathlib.Core.Bool.{true, false}
use lib.IntN.{pos, negsuc}
use lib.Signed.{shr_z}
use mir.Syntax.{w16, w64}
use mir.Val.{SFits}
use mir.Facts.{to_z-of_z}
use Rattle.integers.specs.Bound.{back, fit}
use Rattle.integers.specs.Clamp.{outside}
use Rattle.gte_perspective.specs.Perspective.{exact_of}
use Rattle.gte_perspective.proofs.Plain.{screen_mag, coordinate_plain}
use Rattle.gte_perspective.proofs.screen.coordinate.Goals as goal

pub returns-then-within : goal.returns-then-within
returns-then-within c =
    let is_x : (let a = c.args in c.exact-x.result ≡ exact_of a.q a.ir a.offset) = rw (to_z-of_z c.ranges.ir, to_z-of_z c.ranges.offset) at c.exact-x.ensures in
    let is_s : (let a = c.args in c.shift_down-s.result ≡ shr_z (exact_of a.q a.ir a.offset) 65536) = rw (back w64 c.exact-x.result c.exact-x.type_inv, is_x) at c.shift_down-s.ensures in
    let clear : c.within.result ≡ true → let a = c.args in outside (negsuc 0x3ff) (pos 0x3ff) (shr_z (exact_of a.q a.ir a.offset) 65536) ≡ false = λ e. not-true _ (sym (rw (back w64 c.shift_down-s.result c.shift_down-s.type_inv, is_s) at c.within.ensures) ∙ e) in
    let short : c.within.result ≡ true → SFits w16 c.shift_down-s.result = λ e. rw is_s (fit w16 (screen_mag _ (clear e)) tt) in
    rw (back w64 c.shift_down-s.result c.shift_down-s.type_inv, to_z-of_z (short c.if-within.true), is_s)
    (coordinate_plain c.args.bit _ (clear c.if-within.true))

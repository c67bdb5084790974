-- An IR0 in range is not limited, and its exact value is far from the ends of MAC0.
use borrow.Author.Tests.{not-true}
use mathlib.Core.Path.{◌≡◌, sym, ◌∙◌}
use mathlib.Core.Bool.{true, false}
use lib.IntN.{pos}
use lib.Signed.{shr_z}
use mir.Syntax.{w16, w32, w64}
use mir.Val.{SFits}
use mir.Facts.{to_z-of_z}
use Rattle.integers.specs.Bound.{back, fit}
use Rattle.integers.specs.Clamp.{outside}
use Rattle.gte_line.proofs.Plain.{by_4096}
use Rattle.gte_perspective.specs.Perspective.{exact_of}
use Rattle.gte_perspective.proofs.Plain.{factor_mag, cue_plain}
use Rattle.gte_perspective.proofs.screen.cue_factor.Goals as goal

pub returns-then-within : goal.returns-then-within
returns-then-within c =
    let is_x : c.exact-x.result ≡ exact_of c.args.q c.args.k.dqa c.args.k.dqb = rw (
      back w16 c.args.k.dqa c.struct_told-1.given.1.1.1.0.1,
      back w32 c.args.k.dqb c.struct_told-2-1.given.1.1.1.1.0.1,
    ) at c.exact-x.ensures in
    let is_f : c.shift_down-f.result ≡ shr_z (exact_of c.args.q c.args.k.dqa c.args.k.dqb) 4096 = rw (back w64 c.exact-x.result c.exact-x.type_inv, is_x) at c.shift_down-f.ensures in
    let clear : c.within.result ≡ true → outside (pos 0) (pos 0x1000) (shr_z (exact_of c.args.q c.args.k.dqa c.args.k.dqb) 4096) ≡ false = λ e. not-true _ (sym (rw (back w64 c.shift_down-f.result c.shift_down-f.type_inv, is_f) at c.within.ensures) ∙ e) in
    let word : c.within.result ≡ true → SFits w32 c.exact-x.result = λ e. rw is_x (fit w32 (by_4096 _ (factor_mag _ (clear e))) tt) in
    rw (
      back w64 c.exact-x.result c.exact-x.type_inv,
      to_z-of_z (word c.if-within.true),
      back w64 c.shift_down-f.result c.shift_down-f.type_inv,
      is_f,
      is_x,
    ) (cue_plain _ (clear c.if-within.true))

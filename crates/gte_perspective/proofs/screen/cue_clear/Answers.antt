-- An IR0 in range sets no bit.
use borrow.Author.Tests.{not-true}
use mathlib.Core.Path.{◌≡◌, sym, ap, ◌∙◌}
use mathlib.Core.Bool.{true, false}
use lib.IntN.{pos}
use lib.Signed.{shr_z}
use mir.Syntax.{w16, w32, w64}
use Rattle.integers.specs.Bound.{back}
use Rattle.integers.specs.Clamp.{outside}
use Rattle.gte_perspective.specs.Perspective.{exact_of}
use Rattle.gte_perspective.specs.declared.screen.Factor.{Factor}
use Rattle.gte_perspective.proofs.Plain.{cue_plain}
use Rattle.gte_perspective.proofs.screen.cue_clear.Goals as goal

pub returns : goal.returns
returns c e =
    let is_f : c.shift_down.result ≡ shr_z (exact_of c.args.q c.args.k.dqa c.args.k.dqb) 4096 = rw (
      back w64 c.exact.result c.exact.type_inv,
      c.exact.ensures,
      back w16 c.args.k.dqa c.struct_told-1.given.1.1.1.0.1,
      back w32 c.args.k.dqb c.struct_told-2-1.given.1.1.1.1.0.1,
    ) at c.shift_down.ensures in
    let clear : c.within.result ≡ true → outside (pos 0) (pos 0x1000) (shr_z (exact_of c.args.q c.args.k.dqa c.args.k.dqb) 4096) ≡ false = λ e. not-true _ (sym (rw (back w64 c.shift_down.result c.shift_down.type_inv, is_f) at c.within.ensures) ∙ e) in
    sym (ap (λ (d : Factor). d.flag) (cue_plain _ (clear e)))

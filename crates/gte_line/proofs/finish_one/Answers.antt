-- A value in range is what is stored; the rest is tested value by value.
use borrow.Author.Tests.{not-true}
use mathlib.Core.Path.{◌≡◌, sym, ◌∙◌}
use mathlib.Core.Bool.{false}
use lib.IntN.{pos}
use lib.Signed.{shr_z}
use mir.Syntax.{w16, w32, w64}
use mir.Val.{SFits}
use mir.Facts.{to_z-of_z}
use Rattle.integers.specs.Bound.{back, fit}
use Rattle.integers.specs.Clamp.{outside}
use Rattle.gte_arithmetic.specs.Values.{scale, lowest}
use Rattle.gte_line.proofs.Plain.{ir_mag, cell_plain}
use Rattle.gte_line.proofs.finish_one.Goals as goal

pub returns-then-within : goal.returns-then-within
returns-then-within c =
    let a = c.args in
    let m = c.shift-m.result in
    let is_m : m ≡ shr_z a.x (scale a.sf) = rw (to_z-of_z c.ranges.x) at c.shift-m.ensures in
    let b = back w64 m c.shift-m.type_inv in
    let clear : outside (lowest a.lm) (pos 0x7fff) (shr_z a.x (scale a.sf)) ≡ false = not-true _ (sym (rw (back w64 c.lowest_ir.result c.lowest_ir.type_inv, c.lowest_ir.ensures, b, is_m) at c.within.ensures) ∙ c.if-within.true) in
    let short : SFits w16 m = rw is_m (fit w16 (ir_mag a.lm _ clear) tt) in
    let word : SFits w32 m = rw is_m (fit w32 (ir_mag a.lm _ clear) tt) in
    rw (b, to_z-of_z word, to_z-of_z short, is_m) (cell_plain a.sf a.lm a.bits.over a.bits.under a.bits.ir a.x clear)

-- Each value in its range is what its line gives, and sets no bit.
use borrow.Author.Tests.{not-true}
use mathlib.Core.Path.{◌≡◌, sym, ◌∙◌}
use mathlib.Core.Bool.{true, false}
use lib.Dec.{lit<}
use lib.IntN.{pos, negsuc}
use lib.Signed.{shr_z}
use mir.Syntax.{w16, w64}
use mir.Val.{SFits}
use mir.Facts.{to_z-of_z}
use Rattle.integers.specs.Bound.{back, fit}
use Rattle.integers.specs.Clamp.{outside}
use Rattle.gte_line.proofs.Plain.{ir_mag, cell_plain}
use Rattle.gte_perspective.proofs.Plain.{level_unsigned, third_plain}
use Rattle.gte_perspective.proofs.projection.in_front.Goals as goal

pub overflow_cast-result : goal.overflow_cast-result
overflow_cast-result c =
    let is_x : c.shift_down-x.result ≡ shr_z c.args.s.x 4096 = rw (back w64 c.args.s.x c.struct_told-then-h-depth-1.given.0.1) at c.shift_down-x.ensures in
    let clear_x : c.within-then-h-depth.result ≡ true → outside (negsuc 0x7fff) (pos 0x7fff) (shr_z c.args.s.x 4096) ≡ false = λ e. not-true _ (sym (rw (back w64 c.shift_down-x.result c.shift_down-x.type_inv, is_x) at c.within-then-h-depth.ensures) ∙ e) in
    let short_x : c.within-then-h-depth.result ≡ true → SFits w16 c.shift_down-x.result = λ e. rw is_x (fit w16 (ir_mag false _ (clear_x e)) tt) in
    rw (back w64 c.shift_down-x.result c.shift_down-x.type_inv) (short_x c.if-within-2.true)

pub overflow_cast-result-then-within-3 : goal.overflow_cast-result-then-within-3
overflow_cast-result-then-within-3 c =
    let is_y : c.shift_down-y.result ≡ shr_z c.args.s.y 4096 = rw (back w64 c.args.s.y c.struct_told-then-within-2-1.given.1.0.1) at c.shift_down-y.ensures in
    let clear_y : c.within-then-within-2.result ≡ true → outside (negsuc 0x7fff) (pos 0x7fff) (shr_z c.args.s.y 4096) ≡ false = λ e. not-true _ (sym (rw (back w64 c.shift_down-y.result c.shift_down-y.type_inv, is_y) at c.within-then-within-2.ensures) ∙ e) in
    let short_y : c.within-then-within-2.result ≡ true → SFits w16 c.shift_down-y.result = λ e. rw is_y (fit w16 (ir_mag false _ (clear_y e)) tt) in
    rw (back w64 c.shift_down-y.result c.shift_down-y.type_inv) (short_y c.if-within-3.true)

pub overflow_cast-result-then-within-3-2 : goal.overflow_cast-result-then-within-3-2
overflow_cast-result-then-within-3-2 c =
    let is_z : c.shift_down-depth.result ≡ shr_z c.args.s.z 4096 = rw (back w64 c.args.s.z c.struct_told-1.given.1.1.0.1) at c.shift_down-depth.ensures in
    let clear_z : c.within.result ≡ true → outside (pos 0) (pos 0x7fff) (shr_z c.args.s.z 4096) ≡ false = λ e. not-true _ (sym (rw (back w64 c.shift_down-depth.result c.shift_down-depth.type_inv, is_z) at c.within.ensures) ∙ e) in
    let short_z : c.within.result ≡ true → SFits w16 c.shift_down-depth.result = λ e. rw is_z (fit w16 (ir_mag true _ (clear_z e)) tt) in
    rw (back w64 c.shift_down-depth.result c.shift_down-depth.type_inv) (short_z c.if-within.true)

pub overflow_cast-result-then-within-3-3 : goal.overflow_cast-result-then-within-3-3
overflow_cast-result-then-within-3-3 c =
    let is_z : c.shift_down-depth.result ≡ shr_z c.args.s.z 4096 = rw (back w64 c.args.s.z c.struct_told-1.given.1.1.0.1) at c.shift_down-depth.ensures in
    let clear_z : c.within.result ≡ true → outside (pos 0) (pos 0x7fff) (shr_z c.args.s.z 4096) ≡ false = λ e. not-true _ (sym (rw (back w64 c.shift_down-depth.result c.shift_down-depth.type_inv, is_z) at c.within.ensures) ∙ e) in
    rw (back w64 c.shift_down-depth.result c.shift_down-depth.type_inv, is_z) (level_unsigned 0x7fff (shr_z c.args.s.z 4096) (lit< tt) (clear_z c.if-within.true))

pub returns-then-within-3 : goal.returns-then-within-3
returns-then-within-3 c =
    let is_z : c.shift_down-depth.result ≡ shr_z c.args.s.z 4096 = rw (back w64 c.args.s.z c.struct_told-1.given.1.1.0.1) at c.shift_down-depth.ensures in
    let is_x : c.shift_down-x.result ≡ shr_z c.args.s.x 4096 = rw (back w64 c.args.s.x c.struct_told-then-h-depth-1.given.0.1) at c.shift_down-x.ensures in
    let is_y : c.shift_down-y.result ≡ shr_z c.args.s.y 4096 = rw (back w64 c.args.s.y c.struct_told-then-within-2-1.given.1.0.1) at c.shift_down-y.ensures in
    let clear_z : c.within.result ≡ true → outside (pos 0) (pos 0x7fff) (shr_z c.args.s.z 4096) ≡ false = λ e. not-true _ (sym (rw (back w64 c.shift_down-depth.result c.shift_down-depth.type_inv, is_z) at c.within.ensures) ∙ e) in
    let clear_x : c.within-then-h-depth.result ≡ true → outside (negsuc 0x7fff) (pos 0x7fff) (shr_z c.args.s.x 4096) ≡ false = λ e. not-true _ (sym (rw (back w64 c.shift_down-x.result c.shift_down-x.type_inv, is_x) at c.within-then-h-depth.ensures) ∙ e) in
    let clear_y : c.within-then-within-2.result ≡ true → outside (negsuc 0x7fff) (pos 0x7fff) (shr_z c.args.s.y 4096) ≡ false = λ e. not-true _ (sym (rw (back w64 c.shift_down-y.result c.shift_down-y.type_inv, is_y) at c.within-then-within-2.ensures) ∙ e) in
    let short_z : c.within.result ≡ true → SFits w16 c.shift_down-depth.result = λ e. rw is_z (fit w16 (ir_mag true _ (clear_z e)) tt) in
    let short_x : c.within-then-h-depth.result ≡ true → SFits w16 c.shift_down-x.result = λ e. rw is_x (fit w16 (ir_mag false _ (clear_x e)) tt) in
    let short_y : c.within-then-within-2.result ≡ true → SFits w16 c.shift_down-y.result = λ e. rw is_y (fit w16 (ir_mag false _ (clear_y e)) tt) in
    let bx = back w64 c.shift_down-x.result c.shift_down-x.type_inv in
    let by = back w64 c.shift_down-y.result c.shift_down-y.type_inv in
    let bz = back w64 c.shift_down-depth.result c.shift_down-depth.type_inv in
    let x = is_x in
    let y = is_y in
    let z = is_z in
    rw (bx, by, bz, to_z-of_z (short_x c.if-within-2.true), to_z-of_z (short_y c.if-within-3.true), to_z-of_z (short_z c.if-within.true), x, y, z)
    (record {
      first = sym (cell_plain true false _ _ _ _ (clear_x c.if-within-2.true));
      second = sym (cell_plain true false _ _ _ _ (clear_y c.if-within-3.true));
      third = sym (third_plain _ (clear_z c.if-within.true));
      less = rw (bz, z) at c.if-h-depth.true;
    })

-- A coordinate in range is what its line gives, and sets no bit.
use borrow.Author.Tests.{not-true}
use mathlib.Core.Path.{◌≡◌, sym, ap, ◌∙◌}
use mathlib.Core.Bool.{true, false}
use lib.IntN.{ℤ, pos, negsuc}
use lib.Signed.{shr_z}
use mir.Syntax.{w16, w32, w64}
use mir.Val.{SFits}
use mir.Facts.{to_z-of_z}
use Rattle.integers.specs.Bound.{back, fit}
use Rattle.integers.specs.Clamp.{outside}
use Rattle.gte_arithmetic.specs.declared.values.Checked.{Checked}
use Rattle.gte_perspective.specs.Perspective.{exact_of, pair_of}
use Rattle.gte_perspective.proofs.Plain.{screen_mag, coordinate_plain}
use Rattle.gte_perspective.proofs.screen.on_screen.Goals as goal

pub overflow_cast-x : goal.overflow_cast-x
overflow_cast-x c =
    let is_x : c.shift_down-x.result ≡ shr_z (exact_of c.args.q c.args.f.x c.args.k.ofx) 65536 = rw (
      back w64 c.exact.result c.exact.type_inv,
      c.exact.ensures,
      back w16 c.args.f.x c.struct_told-1.given.0.1,
      back w32 c.args.k.ofx c.struct_told-2-1.given.1.0.1,
    ) at c.shift_down-x.ensures in
    let clear_x : c.within.result ≡ true → outside (negsuc 0x3ff) (pos 0x3ff) (shr_z (exact_of c.args.q c.args.f.x c.args.k.ofx) 65536) ≡ false = λ e. not-true _ (sym (rw (back w64 c.shift_down-x.result c.shift_down-x.type_inv, is_x) at c.within.ensures) ∙ e) in
    let short_x : c.within.result ≡ true → SFits w16 c.shift_down-x.result = λ e. rw is_x (fit w16 (screen_mag _ (clear_x e)) tt) in
    rw (back w64 c.shift_down-x.result c.shift_down-x.type_inv) (short_x c.if-within.true)

pub overflow_cast-y : goal.overflow_cast-y
overflow_cast-y c =
    let is_y : c.shift_down-y.result ≡ shr_z (exact_of c.args.q c.args.f.y c.args.k.ofy) 65536 = rw (
      back w64 c.exact-then-within.result c.exact-then-within.type_inv,
      c.exact-then-within.ensures,
      back w16 c.args.f.y c.struct_told-then-within-1.given.1.0.1,
      back w32 c.args.k.ofy c.struct_told-then-within-2-1.given.1.1.0.1,
    ) at c.shift_down-y.ensures in
    let clear_y : c.within-then-within.result ≡ true → outside (negsuc 0x3ff) (pos 0x3ff) (shr_z (exact_of c.args.q c.args.f.y c.args.k.ofy) 65536) ≡ false = λ e. not-true _ (sym (rw (back w64 c.shift_down-y.result c.shift_down-y.type_inv, is_y) at c.within-then-within.ensures) ∙ e) in
    let short_y : c.within-then-within.result ≡ true → SFits w16 c.shift_down-y.result = λ e. rw is_y (fit w16 (screen_mag _ (clear_y e)) tt) in
    rw (back w64 c.shift_down-y.result c.shift_down-y.type_inv) (short_y c.if-within-2.true)

pub returns-then-within-2 : goal.returns-then-within-2
returns-then-within-2 c =
    let is_x : c.shift_down-x.result ≡ shr_z (exact_of c.args.q c.args.f.x c.args.k.ofx) 65536 = rw (
      back w64 c.exact.result c.exact.type_inv,
      c.exact.ensures,
      back w16 c.args.f.x c.struct_told-1.given.0.1,
      back w32 c.args.k.ofx c.struct_told-2-1.given.1.0.1,
    ) at c.shift_down-x.ensures in
    let is_y : c.shift_down-y.result ≡ shr_z (exact_of c.args.q c.args.f.y c.args.k.ofy) 65536 = rw (
      back w64 c.exact-then-within.result c.exact-then-within.type_inv,
      c.exact-then-within.ensures,
      back w16 c.args.f.y c.struct_told-then-within-1.given.1.0.1,
      back w32 c.args.k.ofy c.struct_told-then-within-2-1.given.1.1.0.1,
    ) at c.shift_down-y.ensures in
    let clear_x : c.within.result ≡ true → outside (negsuc 0x3ff) (pos 0x3ff) (shr_z (exact_of c.args.q c.args.f.x c.args.k.ofx) 65536) ≡ false = λ e. not-true _ (sym (rw (back w64 c.shift_down-x.result c.shift_down-x.type_inv, is_x) at c.within.ensures) ∙ e) in
    let clear_y : c.within-then-within.result ≡ true → outside (negsuc 0x3ff) (pos 0x3ff) (shr_z (exact_of c.args.q c.args.f.y c.args.k.ofy) 65536) ≡ false = λ e. not-true _ (sym (rw (back w64 c.shift_down-y.result c.shift_down-y.type_inv, is_y) at c.within-then-within.ensures) ∙ e) in
    let short_x : c.within.result ≡ true → SFits w16 c.shift_down-x.result = λ e. rw is_x (fit w16 (screen_mag _ (clear_x e)) tt) in
    let short_y : c.within-then-within.result ≡ true → SFits w16 c.shift_down-y.result = λ e. rw is_y (fit w16 (screen_mag _ (clear_y e)) tt) in
    let is_xy : c.pair.result ≡ pair_of c.shift_down-x.result c.shift_down-y.result = rw (
      back w64 c.shift_down-x.result c.shift_down-x.type_inv,
      back w64 c.shift_down-y.result c.shift_down-y.type_inv,
      to_z-of_z (short_x c.if-within.true),
      to_z-of_z (short_y c.if-within-2.true),
    ) at c.pair.ensures in
    let a = c.args in
    let x = coordinate_plain 0x4000 (exact_of a.q a.f.x a.k.ofx) (clear_x c.if-within.true) in
    let y = coordinate_plain 0x2000 (exact_of a.q a.f.y a.k.ofy) (clear_y c.if-within-2.true) in
    record {
      first = sym (ap (λ (s : Checked ℤ). s.flag) x);
      second = sym (ap (λ (s : Checked ℤ). s.flag) y);
      place = rw (is_xy, is_x, is_y, ← ap (λ (s : Checked ℤ). s.v) x, ← ap (λ (s : Checked ℤ). s.v) y);
    }

-- Each product has 31 bits, so that every partial sum fits 64.
use Prim.Native.Nat.{◌+◌, ◌^◌}
use lib.IntN.{ℤ, ◌+ℤ◌, ◌-ℤ◌}
use mir.Syntax.{w16, w64}
use mir.Val.{SFits}
use mir.Facts.{to_z-of_z}
use Rattle.integers.specs.Parts.{Mag}
use Rattle.integers.specs.Bound.{back, fit, mag_add, mag_sub}
use Rattle.gte_depth.specs.Depth.{winding_of}
use Rattle.gte_depth.proofs.values.winding_sum.Goals as goal

abbrev Small : ℤ → Type 0
Small x = Mag x (2 ^ 30 + 1)

fits_2 : {p q : ℤ} → Small p → Small q → SFits w64 (p +ℤ q)
fits_2 a b = fit w64 (mag_add a b) tt

fits_3 : {p q r : ℤ} → Small p → Small q → Small r → SFits w64 (p +ℤ q +ℤ r)
fits_3 a b d = fit w64 (mag_add (mag_add a b) d) tt

fits_4 : {p q r s : ℤ} → Small p → Small q → Small r → Small s → SFits w64 (p +ℤ q +ℤ r -ℤ s)
fits_4 a b d e = fit w64 (mag_sub (mag_add (mag_add a b) d) e) tt

fits_5 : {p q r s t : ℤ} → Small p → Small q → Small r → Small s → Small t → SFits w64 (p +ℤ q +ℤ r -ℤ s -ℤ t)
fits_5 a b d e f = fit w64 (mag_sub (mag_sub (mag_add (mag_add a b) d) e) f) tt

fits_6 : {p q r s t u : ℤ} → Small p → Small q → Small r → Small s → Small t → Small u → SFits w64 (p +ℤ q +ℤ r -ℤ s -ℤ t -ℤ u)
fits_6 a b d e f g = fit w64 (mag_sub (mag_sub (mag_sub (mag_add (mag_add a b) d) e) f) g) tt

pub overflow_add-result-2 : goal.overflow_add-result-2
overflow_add-result-2 c =
    let p = c.times in
    let q = c.times-2 in
    let r = c.times-3 in
    rw (back w64 p.result p.type_inv, back w64 q.result q.type_inv, back w64 r.result r.type_inv, to_z-of_z (fits_2 p.ensures.small q.ensures.small)) (fits_3 p.ensures.small q.ensures.small r.ensures.small)

pub overflow_sub-result : goal.overflow_sub-result
overflow_sub-result c =
    let p = c.times in
    let q = c.times-2 in
    let r = c.times-3 in
    let s = c.times-4 in
    rw (back w64 p.result p.type_inv, back w64 q.result q.type_inv, back w64 r.result r.type_inv, back w64 s.result s.type_inv, to_z-of_z (fits_2 p.ensures.small q.ensures.small), to_z-of_z (fits_3 p.ensures.small q.ensures.small r.ensures.small)) (fits_4 p.ensures.small q.ensures.small r.ensures.small s.ensures.small)

pub overflow_sub-result-2 : goal.overflow_sub-result-2
overflow_sub-result-2 c =
    let p = c.times in
    let q = c.times-2 in
    let r = c.times-3 in
    let s = c.times-4 in
    let t = c.times-5 in
    rw (back w64 p.result p.type_inv, back w64 q.result q.type_inv, back w64 r.result r.type_inv, back w64 s.result s.type_inv, back w64 t.result t.type_inv, to_z-of_z (fits_2 p.ensures.small q.ensures.small), to_z-of_z (fits_3 p.ensures.small q.ensures.small r.ensures.small), to_z-of_z (fits_4 p.ensures.small q.ensures.small r.ensures.small s.ensures.small)) (fits_5 p.ensures.small q.ensures.small r.ensures.small s.ensures.small t.ensures.small)

pub overflow_sub-result-3 : goal.overflow_sub-result-3
overflow_sub-result-3 c =
    let p = c.times in
    let q = c.times-2 in
    let r = c.times-3 in
    let s = c.times-4 in
    let t = c.times-5 in
    let u = c.times-6 in
    rw (back w64 p.result p.type_inv, back w64 q.result q.type_inv, back w64 r.result r.type_inv, back w64 s.result s.type_inv, back w64 t.result t.type_inv, back w64 u.result u.type_inv, to_z-of_z (fits_2 p.ensures.small q.ensures.small), to_z-of_z (fits_3 p.ensures.small q.ensures.small r.ensures.small), to_z-of_z (fits_4 p.ensures.small q.ensures.small r.ensures.small s.ensures.small), to_z-of_z (fits_5 p.ensures.small q.ensures.small r.ensures.small s.ensures.small t.ensures.small)) (fits_6 p.ensures.small q.ensures.small r.ensures.small s.ensures.small t.ensures.small u.ensures.small)

pub returns : goal.returns
unfolding winding_of
returns c =
    let p = c.times in
    let q = c.times-2 in
    let r = c.times-3 in
    let s = c.times-4 in
    let t = c.times-5 in
    let u = c.times-6 in
    let g = c.args in
    rw (
      back w64 p.result p.type_inv,
      back w64 q.result q.type_inv,
      back w64 r.result r.type_inv,
      back w64 s.result s.type_inv,
      back w64 t.result t.type_inv,
      back w64 u.result u.type_inv,
      to_z-of_z (fits_2 p.ensures.small q.ensures.small),
      to_z-of_z (fits_3 p.ensures.small q.ensures.small r.ensures.small),
      to_z-of_z (fits_4 p.ensures.small q.ensures.small r.ensures.small s.ensures.small),
      to_z-of_z (fits_5 p.ensures.small q.ensures.small r.ensures.small s.ensures.small t.ensures.small),
      to_z-of_z (fits_6 p.ensures.small q.ensures.small r.ensures.small s.ensures.small t.ensures.small u.ensures.small),
      p.ensures.is,
      q.ensures.is,
      r.ensures.is,
      s.ensures.is,
      t.ensures.is,
      u.ensures.is,
      back w16 g.a.x c.struct_told-1.given.0.1,
      back w16 g.b.y c.struct_told-2-1.given.1.0.1,
      back w16 g.b.x c.struct_told-3-1.given.0.1,
      back w16 g.c.y c.struct_told-4-1.given.1.0.1,
      back w16 g.c.x c.struct_told-5-1.given.0.1,
      back w16 g.a.y c.struct_told-6-1.given.1.0.1,
    )

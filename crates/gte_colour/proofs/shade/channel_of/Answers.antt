-- MAC and IR are those of the cell, and the colour is limited from the same MAC.
use mathlib.Core.Path.{◌≡◌}
use Prim.Native.Nat.{◌≤◌}
use lib.IntN.{ℤ, pos}
use lib.Signed.{shr_z}
use mir.Syntax.{w16, w32}
use mir.Facts.{to_z-of_z}
use Rattle.integers.specs.Parts.{pos_part, neg_part, zarith, nat_abs_gap, pos_nonneg}
use Rattle.integers.specs.Bound.{back}
use Rattle.integers.specs.Clamp.{clamp, clamp_low, clamp_high, outside}
use Rattle.gte_arithmetic.specs.Checks.{or, raise}
use Rattle.gte_arithmetic.specs.Values.{mac_of, colour_of}
use Rattle.gte_line.specs.Line.{cell_of}
use Rattle.gte_colour.proofs.shade.channel_of.Goals as goal

colour_byte : (m : ℤ) → colour_of m ≤ 255
unfolding colour_of pos_part neg_part
colour_byte m =
    let l = clamp_low (pos 0) (pos 0xff) (shr_z m 16) (pos_nonneg 0xff) in
    let u = clamp_high (pos 0) (pos 0xff) (shr_z m 16) (pos_nonneg 0xff) in
    omega (zarith, nat_abs_gap (clamp (pos 0) (pos 0xff) (shr_z m 16)))

pub returns-clause-is : goal.returns-clause-is
unfolding cell_of or
returns-clause-is c = let is_m : (let a = c.args in c.finish_one-m.result ≡ cell_of a.sf a.lm a.bits.over a.bits.under a.bits.ir a.x) = rw (to_z-of_z c.ranges.x) at c.finish_one-m.ensures in
    let is_c : (let a = c.args in let m = mac_of a.sf a.x in c.limit_colour-c.result ≡ record { v = colour_of m; flag = raise (outside (pos 0) (pos 0xff) (shr_z m 16)) a.cut }) = rw (back w32 c.finish_one-m.result.mac c.struct_told-1.given.0.1, is_m) at c.limit_colour-c.ensures in
    rw (
      back w32 c.finish_one-m.result.mac c.struct_told-1.given.0.1,
      back w16 c.finish_one-m.result.ir c.struct_told-2-1.given.1.0.1,
      is_m,
      is_c,
    )

pub returns-clause-small : goal.returns-clause-small
unfolding cell_of or
returns-clause-small c = let is_m : (let a = c.args in c.finish_one-m.result ≡ cell_of a.sf a.lm a.bits.over a.bits.under a.bits.ir a.x) = rw (to_z-of_z c.ranges.x) at c.finish_one-m.ensures in
    let is_c : (let a = c.args in let m = mac_of a.sf a.x in c.limit_colour-c.result ≡ record { v = colour_of m; flag = raise (outside (pos 0) (pos 0xff) (shr_z m 16)) a.cut }) = rw (back w32 c.finish_one-m.result.mac c.struct_told-1.given.0.1, is_m) at c.limit_colour-c.ensures in
    rw is_c (colour_byte _)

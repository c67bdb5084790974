-- The rows of the third sum, then those of Z.
use native.Mathlib.Omega.{arith}
use mir.Syntax.{w64}
use mir.Facts.{to_z-of_z}
use Rattle.integers.specs.Bound.{back}
use Rattle.gte_rows.proofs.Listings.{then, none_left, past}
use Rattle.gte_causes.proofs.perspective.list_third.Goals as goal

pub returns-then-rows-lt18 : goal.returns-then-rows-lt18
returns-then-rows-lt18 c =
    let f = c.ranges.x in
    let low = c.if-rows-lt18.true in
    let e = rw (to_z-of_z f) at c.far-z.ensures in
    let z = rw e at c.far-z.type_inv in
    past (λ e. omega arith) f (past (λ e. omega arith) f (past (λ e. omega arith) (record { sfits = z }) (past (λ e. omega arith) (record { sfits = z }) (none_left _))))

pub returns : goal.returns
returns c = let f = to_z-of_z c.ranges.x in
    let s = back w64 c.far-z.result c.far-z.type_inv in
    let z = rw f at c.far-z.ensures in
    let u = rw f at c.list_sum.ensures in
    let v = rw (s, z) at c.list_ir.ensures in
    let w = rw (s, z) at c.list_depth.ensures in
    then (then u v) w

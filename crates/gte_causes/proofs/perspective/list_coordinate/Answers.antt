-- The rows of MAC0, then that of the coordinate from its exact value.
use native.Mathlib.Omega.{arith}
use mir.Syntax.{w64}
use mir.Facts.{to_z-of_z}
use Rattle.integers.specs.Bound.{back}
use Rattle.gte_rows.proofs.Listings.{then, none_left, past}
use Rattle.gte_causes.proofs.perspective.list_coordinate.Goals as goal

pub returns-then-rows-gt16 : goal.returns-then-rows-gt16
returns-then-rows-gt16 c =
    let f = c.ranges.x in
    let b = c.requires.1 in
    let high = c.if-rows-gt16.true in
    let v = rw (c.shift_down-coordinate.ensures, to_z-of_z f) at c.shift_down-coordinate.type_inv in
    past (λ e. omega arith) f (past (λ e. omega arith) f (past (λ e. omega arith) (record { sfits = v }) (none_left _)))

pub returns : goal.returns
returns c = let f = to_z-of_z c.ranges.x in
    let u = rw f at c.list_mac0.ensures in
    let v = rw (back w64 c.shift_down-coordinate.result c.shift_down-coordinate.type_inv, c.shift_down-coordinate.ensures, f) at c.list_screen.ensures in
    then u v

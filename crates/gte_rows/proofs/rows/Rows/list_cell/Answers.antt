-- The rows of the sum, then that of IR from the stored value.
use native.Mathlib.Omega.{arith}
use mir.Syntax.{w32, w64}
use mir.Facts.{to_z-of_z, sfits_widen}
use Rattle.integers.specs.Bound.{back}
use Rattle.gte_rows.proofs.Listings.{then, none_left, past}
use Rattle.gte_rows.proofs.rows.Rows.list_cell.Goals as goal

pub returns-then-self-lt22 : goal.returns-then-self-lt22
returns-then-self-lt22 c =
    let w = rw (c.store_mac.ensures, to_z-of_z c.ranges.y) at (sfits_widen {w = w32} {w' = w64} {z = c.store_mac.result.v} tt (record { sfits = c.struct_told-1.given.0.1 })) in
    let k = c.requires.1 in
    let low = c.if-self-lt22.true in
    past (λ e. omega arith) c.ranges.x (past (λ e. omega arith) c.ranges.x (past (λ e. omega arith) w (none_left _)))

pub returns : goal.returns
returns c = let m = c.store_mac.result.v in
    let h = c.struct_told-1.given.0.1 in
    let u = rw (to_z-of_z c.ranges.x) at c.list_sum.ensures in
    let v = rw (c.from-m.ensures, back w32 m h, to_z-of_z {w = w64} (sfits_widen {w = w32} tt (record { sfits = h })), c.store_mac.ensures, to_z-of_z c.ranges.y) at c.list_ir.ensures in
    then u v

-- The row of IR, then that of the colour, from the same stored value.
use mir.Syntax.{w32, w64}
use mir.Facts.{to_z-of_z, sfits_widen}
use Rattle.integers.specs.Bound.{back}
use Rattle.gte_rows.proofs.Listings.{then}
use Rattle.gte_rows.proofs.rows.Rows.list_end.Goals as goal

pub returns : goal.returns
returns c = let m = c.store_mac-m.result.v in
    let h = c.struct_told-1.given.0.1 in
    let f = to_z-of_z c.ranges.x in
    let u = rw (c.from.ensures, back w32 m h, to_z-of_z {w = w64} (sfits_widen {w = w32} tt (record { sfits = h })), c.store_mac-m.ensures, f) at c.list_ir.ensures in
    let v = rw (back w32 m h, c.store_mac-m.ensures, f) at c.list_colour.ensures in
    then u v

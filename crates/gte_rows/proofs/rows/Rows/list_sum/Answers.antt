-- The row above, then the row below.
use mir.Facts.{to_z-of_z}
use Rattle.gte_rows.proofs.Listings.{then}
use Rattle.gte_rows.proofs.rows.Rows.list_sum.Goals as goal

pub returns : goal.returns
returns c = let f = to_z-of_z c.ranges.x in then (rw f at c.list_above.ensures) (rw f at c.list_below.ensures)

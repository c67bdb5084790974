-- The rows of the sum, then those of its IR and colour.
use mir.Facts.{to_z-of_z}
use Rattle.gte_rows.proofs.Listings.{then}
use Rattle.gte_rows.proofs.rows.Rows.list_channel.Goals as goal

pub returns : goal.returns
returns c = let f = to_z-of_z c.ranges.x in then (rw f at c.list_sum.ensures) (rw f at c.list_end.ensures)

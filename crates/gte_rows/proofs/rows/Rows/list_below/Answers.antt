-- The test compares the value itself.
use mir.Facts.{to_z-of_z}
use Rattle.gte_rows.proofs.Listings.{one}
use Rattle.gte_rows.proofs.rows.Rows.list_below.Goals as goal

pub returns : goal.returns
returns c = let f = c.ranges in one _ _ _ f.v (rw (to_z-of_z f.v, to_z-of_z f.lo) at c.list_value.ensures.is) c.list_value.ensures.most

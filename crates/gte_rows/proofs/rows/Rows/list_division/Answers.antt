-- The two words are H and SZ3.
use Rattle.gte_rows.proofs.Listings.{one}
use Rattle.gte_rows.proofs.rows.Rows.list_division.Goals as goal

pub returns : goal.returns
returns c = one _ _ _ tt c.list_check.ensures.is c.list_check.ensures.most

-- Five stores one after another, or none where the row does not fit.
use Rattle.gte_rows.proofs.Listings.{row_short, row_put}
use Rattle.gte_rows.proofs.rows.Rows.add_row.Goals as goal

pub returns-then-self-n-clause-is : goal.returns-then-self-n-clause-is
returns-then-self-n-clause-is c = row_short _ _ _ c.if-self-n.true

pub returns-clause-is : goal.returns-clause-is
returns-clause-is c = row_put _ _ _ c.if-self-n.false

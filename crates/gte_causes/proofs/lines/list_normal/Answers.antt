-- The rows of line 1, then those of line 2, which starts from line 1's IR.
use Rattle.gte_line.specs.Line.{line_checks_at}
use Rattle.gte_rows.proofs.Listings.{then}
use Rattle.gte_causes.proofs.lines.list_normal.Goals as goal

pub returns : goal.returns
unfolding line_checks_at
returns c = let u = rw c.light_sums.ensures.is at c.list_line.ensures in
    let v = rw (c.back_sums.ensures.is, c.light_line.ensures) at c.list_line-2.ensures in
    then u v

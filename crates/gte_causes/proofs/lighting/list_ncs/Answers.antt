-- The rows of lines 1 and 2, then those of the same sums' IR and colours.
use Rattle.gte_line.specs.Line.{line_checks_at}
use Rattle.gte_lighting.specs.Normals.{ncs_checks, last_checks}
use Rattle.gte_rows.proofs.Listings.{then}
use Rattle.gte_causes.proofs.lighting.list_ncs.Goals as goal

pub returns : goal.returns
unfolding ncs_checks last_checks line_checks_at
returns c = let v = rw (c.back_sums.ensures.is, c.light_line.ensures) at c.list_last.ensures in
    then c.list_normal.ensures v

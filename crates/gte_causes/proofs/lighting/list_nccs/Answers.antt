-- The rows of lines 1 and 2, then those of the end.
use Rattle.gte_line.specs.Line.{line_checks_at}
use Rattle.gte_colour.specs.Lights.{normal_line}
use Rattle.gte_colour.proofs.CueingLines.{code}
use Rattle.gte_rows.proofs.Listings.{then}
use Rattle.gte_causes.proofs.lighting.list_nccs.Goals as goal

pub returns : goal.returns
unfolding line_checks_at normal_line
returns c = let v = rw (c.tones.ensures.is, c.normal_line.ensures, code c.args.c.now) at c.list_shade.ensures in
    then c.list_normal.ensures v

-- The rows of line 1, then those of the end.
use Rattle.gte_colour.proofs.CueingLines.{code}
use Rattle.gte_rows.proofs.Listings.{then}
use Rattle.gte_causes.proofs.shading.list_cc.Goals as goal

pub returns : goal.returns
returns c = let u = rw (c.back_sums-s.ensures.is, c.ir.ensures) at c.list_line.ensures in
    let v = rw (c.tones.ensures.is, c.finish.ensures, c.back_sums-s.ensures.is, c.ir.ensures, code c.args.c.now) at c.list_shade.ensures in
    then u v

-- The rows of the difference, then those of what it is mixed to.
use mir.Syntax.{w16}
use Rattle.integers.specs.Bound.{back}
use Rattle.gte_colour.specs.Shade.{mixed_of}
use Rattle.gte_colour.specs.Cueing.{cued_checks}
use Rattle.gte_rows.proofs.Listings.{then}
use Rattle.gte_causes.proofs.lines.list_cue.Goals as goal

pub returns : goal.returns
unfolding cued_checks mixed_of
returns c = let f = c.far_colour-f.ensures in
    let u = rw (c.away.ensures.is, f) at c.list_line.ensures in
    let m = rw (back w16 c.ir0.result c.ir0.type_inv, c.ir0.ensures, f) at c.mix-m.ensures.is in
    let v = rw m at c.list_shade.ensures in
    then u v

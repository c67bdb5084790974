-- MAC0, OTZ and FLAG are seen as written to the words.
use mir.Syntax.{w32}
use Rattle.integers.specs.Bound.{back}
use Rattle.gte_results.specs.AverageEffects.{average_left}
use Rattle.gte_results.specs.Effects.{flagged}
use Rattle.gte_results.proofs.AveragesViews.{average_view}
use Rattle.gte_results.proofs.averages.leave_average.Goals as goal

pub returns : goal.returns
unfolding average_left flagged
returns c =
    let g = c.args in
    rw (c.to_bits.ensures, back w32 g.a.mac0 c.struct_told-1.given.0.1) (average_view g.a g.c.now c.told-c)

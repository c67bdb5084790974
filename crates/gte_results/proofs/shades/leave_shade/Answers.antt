-- The colour is pushed, MAC, IR and FLAG are written: what is left is seen so.
use Rattle.gte_results.specs.Effects.{flagged}
use Rattle.gte_results.specs.ShadeEffects.{shade_left}
use Rattle.gte_results.proofs.ShadesViews.{shade_view}
use Rattle.gte_results.proofs.shades.leave_shade.Goals as goal

pub returns : goal.returns
unfolding flagged shade_left
returns c = rw (c.store.ensures, c.push_colour.ensures) (shade_view c.args.s c.args.c.now c.told-c)

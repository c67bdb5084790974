-- The three colours are pushed, MAC and IR of the last part and the flags of all are written: what is left is seen so.
use Rattle.gte_arithmetic.specs.Checks.{or}
use Rattle.gte_results.specs.Effects.{flagged}
use Rattle.gte_results.specs.ShadeEffects.{shades_left}
use Rattle.gte_results.proofs.ShadesViews.{shades_view}
use Rattle.gte_results.proofs.shades.leave_shades.Goals as goal

pub returns : goal.returns
unfolding or flagged shades_left
returns c =
    let a = c.args in
    rw (c.store.ensures, c.push_colour-3.ensures, c.push_colour-2.ensures, c.push_colour.ensures) (shades_view a.p a.q a.r a.c.now c.told-c)

-- The corners are read from the storage as from the words, and the flag is that of the two checks of MAC0.
use mathlib.Core.Path.{◌≡◌}
use mathlib.Core.List.{[]}
use lib.IntN.{ℤ}
use mir.Syntax.{w32}
use Rattle.integers.specs.Bound.{back}
use Rattle.gte_arithmetic.specs.Checks.{flags}
use Rattle.gte_arithmetic.specs.Values.{mac0_flag, mac0_checks}
use Rattle.gte_arithmetic.proofs.Flags.{or_none}
use Rattle.gte_results.specs.AverageEffects.{winding_left}
use Rattle.gte_results.specs.Effects.{flagged}
use Rattle.gte_inputs.specs.Inputs.{inputs_of}
use Rattle.gte_depth.specs.Depth.{winding_of}
use Rattle.gte_inputs.proofs.Views.{inputs_view}
use Rattle.gte_results.proofs.AveragesViews.{winding_view}
use Rattle.gte_depth.proofs.averages.nclip.Goals as goal

same_flag : (x : ℤ) → mac0_flag x ≡ flags (mac0_checks 1 x [])
unfolding flags mac0_flag
same_flag x = simp (or_none)

pub returns : goal.returns
unfolding winding_left flagged
returns c =
    let s = c.args.c.now in
    let i = inputs_of s in
    let x = winding_of i.sxy0 i.sxy1 i.sxy2 in
    rw (
      c.to_bits.ensures,
      back w32 c.winding-m.result.v c.struct_told-1.given.0.1,
      c.winding-m.ensures,
      c.corner0.ensures,
      c.corner1.ensures,
      c.corner2.ensures,
      same_flag x,
      inputs_view s,
    ) (winding_view x s c.sized.ensures)

-- What a colour command writes to the storage is seen as written to the words that reads return.
use mathlib.Core.Path.{◌≡◌, ap, ◌∙◌}
use mathlib.Core.List.{List}
use Prim.Native.Nat.{ℕ}
use lib.ListN.{length}
use Rattle.gte_arithmetic.specs.declared.values.Shade.{Shade}
use Rattle.gte_registers.specs.Registers.{kinds, read_of, reads, view}
use Rattle.gte_registers.proofs.Views.{short_short, half_half, from, spelt}
use Rattle.gte_results.specs.Effects.{stored, flagged}
use Rattle.gte_results.specs.ShadeEffects.{pushed_colour, shade_left, shades_left}

-- ---- what a command leaves: over the elements, then over a list of 64
shade_seen : (x : Shade) (s : List ℕ) → reads (shade_left x (from 64 0 s)) ≡ reads (shade_left x (reads s))
unfolding reads read_of kinds shade_left stored flagged pushed_colour
shade_seen x s = simp (short_short, half_half)

pub shade_view : (x : Shade) (s : List ℕ) → length s ≡ 64 → view (shade_left x s) ≡ reads (shade_left x (view s))
unfolding view
shade_view x s h = ap (λ (t : List ℕ). reads (shade_left x t)) (spelt s h) ∙ shade_seen x s

shades_seen : (x y z : Shade) (s : List ℕ) → reads (shades_left x y z (from 64 0 s)) ≡ reads (shades_left x y z (reads s))
unfolding reads read_of kinds shades_left stored flagged pushed_colour
shades_seen x y z s = simp (short_short, half_half)

pub shades_view : (x y z : Shade) (s : List ℕ) → length s ≡ 64 → view (shades_left x y z s) ≡ reads (shades_left x y z (view s))
unfolding view
shades_view x y z s h = ap (λ (t : List ℕ). reads (shades_left x y z t)) (spelt s h) ∙ shades_seen x y z s

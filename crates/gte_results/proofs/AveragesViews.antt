-- What NCLIP, AVSZ3 and AVSZ4 write to the storage is seen as written to the words that reads return.
use mathlib.Core.Path.{◌≡◌, ap, ◌∙◌}
use mathlib.Core.List.{List}
use Prim.Native.Nat.{ℕ}
use lib.IntN.{ℤ}
use lib.ListN.{length}
use Rattle.gte_arithmetic.specs.declared.values.Average.{Average}
use Rattle.gte_registers.specs.Registers.{kinds, read_of, reads, view}
use Rattle.gte_registers.proofs.Views.{short_short, half_half, fields_short, from, spelt}
use Rattle.gte_results.specs.Effects.{flagged}
use Rattle.gte_results.specs.AverageEffects.{winding_left, average_left}

winding_seen : (x : ℤ) (s : List ℕ) → reads (winding_left x (from 64 0 s)) ≡ reads (winding_left x (reads s))
unfolding reads read_of kinds winding_left flagged
winding_seen x s = simp (short_short, half_half, fields_short)

pub winding_view : (x : ℤ) (s : List ℕ) → length s ≡ 64 → view (winding_left x s) ≡ reads (winding_left x (view s))
unfolding view
winding_view x s h = ap (λ (t : List ℕ). reads (winding_left x t)) (spelt s h) ∙ winding_seen x s

average_seen : (x : Average) (s : List ℕ) → reads (average_left x (from 64 0 s)) ≡ reads (average_left x (reads s))
unfolding reads read_of kinds average_left flagged
average_seen x s = simp (short_short, half_half, fields_short)

pub average_view : (x : Average) (s : List ℕ) → length s ≡ 64 → view (average_left x s) ≡ reads (average_left x (view s))
unfolding view
average_view x s h = ap (λ (t : List ℕ). reads (average_left x t)) (spelt s h) ∙ average_seen x s

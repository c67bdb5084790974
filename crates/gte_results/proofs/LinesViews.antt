-- What a command writes to the storage is seen as written to the words that reads return.
use mathlib.Core.Path.{◌≡◌, ap, ◌∙◌}
use mathlib.Core.List.{List}
use Prim.Native.Nat.{ℕ}
use lib.ListN.{length}
use Rattle.gte_arithmetic.specs.declared.values.Line.{Line}
use Rattle.gte_registers.specs.Registers.{kinds, read_of, reads, view}
use Rattle.gte_arithmetic.proofs.Flags.{flag_word_twice}
use Rattle.gte_registers.proofs.Views.{short_short, half_half, from, spelt}
use Rattle.gte_results.specs.Effects.{stored, flagged, line_left}

-- ---- what a command leaves: over the elements, then over a list of 64
line_seen : (l : Line) (s : List ℕ) → reads (line_left l (from 64 0 s)) ≡ reads (line_left l (reads s))
unfolding reads read_of kinds line_left stored flagged
line_seen l s = simp (short_short, half_half, flag_word_twice)

pub line_view : (l : Line) (s : List ℕ) → length s ≡ 64 → view (line_left l s) ≡ reads (line_left l (view s))
unfolding view
line_view l s h = ap (λ (t : List ℕ). reads (line_left l t)) (spelt s h) ∙ line_seen l s

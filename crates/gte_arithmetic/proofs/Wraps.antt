-- A value of at most three ranges is brought back to 44 bits by one addition or subtraction of 2^44.
use mathlib.Core.Path.{◌≡◌}
use mathlib.Core.Bool.{true, false}
use Prim.Native.Nat.{◌*◌, ◌^◌}
use lib.IntN.{ℤ, pos, negsuc, ◌+ℤ◌, ◌-ℤ◌}
use lib.Signed.{lt_z}
use Rattle.integers.specs.Parts.{pos_part, neg_part, zarith, Mag}
use Rattle.integers.specs.Wrap.{wrap, wrap_in, wrap_over, wrap_under}
use Rattle.gte_arithmetic.proofs.Flags.{or_none, none_or}

pub wraps_up : (x : ℤ) → Mag x (3 * 2 ^ 43) → lt_z x (negsuc 8796093022207) ≡ true → wrap (2 ^ 43) x ≡ x +ℤ pos 17592186044416
unfolding pos_part neg_part
wraps_up x m t = wrap_under (2 ^ 43) x (omega zarith) (omega zarith)

pub wraps_down : (x : ℤ) → Mag x (3 * 2 ^ 43) → lt_z (pos 8796093022207) x ≡ true → wrap (2 ^ 43) x ≡ x -ℤ pos 17592186044416
unfolding pos_part neg_part
wraps_down x m t = wrap_over (2 ^ 43) x (omega zarith) (omega zarith)

pub stays : (x : ℤ) → lt_z x (negsuc 8796093022207) ≡ false → lt_z (pos 8796093022207) x ≡ false → wrap (2 ^ 43) x ≡ x
unfolding pos_part neg_part
stays x s t = wrap_in (2 ^ 43) x (omega zarith) (omega zarith)

-- what each arm of the test needs: its flag, and its wrap
pub ruleset arms = (or_none, none_or, wraps_up, wraps_down, stays)

-- Where the quotient is what any H gives.
use mathlib.Core.Path.{◌≡◌}
use Prim.Native.Nat.{ℕ, ◌*◌, ◌<◌}
use borrow.Author.Tests.{lt-leb}
use Rattle.gte_division.specs.Division.{quotient, ratio_of}

pub ratio_below : (h sz : ℕ) → h < 2 * sz → ratio_of h sz ≡ quotient h sz
unfolding ratio_of
ratio_below h sz l = rw (lt-leb _ _ l)

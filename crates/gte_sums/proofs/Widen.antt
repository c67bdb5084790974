-- A signed number cast to 64 bits: what the cast asks, and what it gives.
use mathlib.Core.Path.{◌≡◌}
use lib.Dec.{T, leb}
use lib.IntN.{ℤ}
use mir.Syntax.{Width, w64}
use mir.Val.{SFits, hbits, to_z, of_z}
use mir.Facts.{to_z-of_z, sfits_widen}

pub widened : {w : Width} {z : ℤ} → T (leb (hbits w) (hbits w64)) → SFits w z → to_z w64 (of_z w64 (to_z w (of_z w z))) ≡ z
widened t f = rw (to_z-of_z f) (to_z-of_z {w = w64} (sfits_widen t f))

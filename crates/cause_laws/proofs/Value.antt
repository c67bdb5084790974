-- The last two words of a row give back a value of 64 bits.
use mathlib.Core.Path.{◌≡◌, sym, ap, ◌∙◌}
use Prim.Native.Nat.{◌+◌, ◌*◌, ◌^◌}
use native.Mathlib.Omega.{arith}
use lib.Dec.{lit<}
use lib.IntN.{ℤ}
use lib.Signed.{shr_z}
use mir.Syntax.{w64}
use mir.Val.{to_z, SFits}
use Rattle.integers.specs.Floor.{mod_z, mod_below, mod_parts, mod_unique}
use Rattle.integers.specs.Wrap.{wrap_fits}
use Rattle.integers.specs.Bits.{to_z_mod}
use Rattle.integers.specs.Bound.{arg}
use Rattle.gte_rows.specs.Rows.{low_of, high_of}

two_words : (z : ℤ) → mod_z z (2 ^ 64) ≡ high_of z * 2 ^ 32 + low_of z
two_words z =
    let s = shr_z z (2 ^ 32) in
    mod_unique z (shr_z s (2 ^ 32)) (2 ^ 64) (high_of z * 2 ^ 32 + low_of z)
    (omega (arith, mod_below z (2 ^ 32) (lit< tt), mod_below s (2 ^ 32) (lit< tt)))
    (omega (arith, mod_parts z (2 ^ 32) (lit< tt), mod_parts s (2 ^ 32) (lit< tt)))

pub value : (z : ℤ) → SFits w64 z → to_z w64 (high_of z * 2 ^ 32 + low_of z) ≡ z
value z f = ap (to_z w64) (sym (two_words z)) ∙ to_z_mod w64 z ∙ wrap_fits (2 ^ 63) (arg w64 f)

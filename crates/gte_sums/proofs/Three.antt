-- Three results of one function, put together as a Wide: each says what it is and how large it is.
use mathlib.Core.Path.{◌≡◌, refl}
use Prim.Native.Nat.{ℕ, ◌^◌}
use lib.Dec.{T, leb, leb→le}
use lib.IntN.{ℤ}
use mir.Syntax.{w64}
use mir.Val.{to_z, of_z}
use mir.Facts.{to_z-of_z}
use Rattle.integers.specs.Parts.{Mag}
use Rattle.integers.specs.Bound.{fit, mag_le}
use Rattle.gte_sums.specs.Sums.{Bounded}
use Rattle.gte_arithmetic.specs.Triples.{Wide}

-- what is read back from the bits of three numbers
abbrev pub read : ℤ → ℤ → ℤ → Wide
read p q r = record { x = to_z w64 (of_z w64 p); y = to_z w64 (of_z w64 q); z = to_z w64 (of_z w64 r) }

-- what they are, with a bound m of the function; the first argument computes, `tt`
pub three_is : {m : ℕ} {p q r a b c : ℤ}
    → T (leb m (2 ^ 63))
    → (p ≡ a) × Mag p m
    → (q ≡ b) × Mag q m
    → (r ≡ c) × Mag r m
    → read p q r ≡ record { x = a; y = b; z = c }
three_is u e f g =
    rw (to_z-of_z (fit w64 e.1 u), to_z-of_z (fit w64 f.1 u), to_z-of_z (fit w64 g.1 u), e.0, f.0, g.0) refl

-- the same and how large they are, with a bound n that is asked; the first two arguments compute, `tt`
pub three : {m n : ℕ} {p q r a b c : ℤ}
    → T (leb m n)
    → T (leb m (2 ^ 63))
    → (p ≡ a) × Mag p m
    → (q ≡ b) × Mag q m
    → (r ≡ c) × Mag r m
    → (read p q r ≡ record { x = a; y = b; z = c }) × Bounded n (read p q r)
three {m} {n} t u e f g =
    let h = leb→le m n t in (
      three_is u e f g,
      rw (to_z-of_z (fit w64 e.1 u), to_z-of_z (fit w64 f.1 u), to_z-of_z (fit w64 g.1 u))
          (record { x = mag_le e.1 h; y = mag_le f.1 h; z = mag_le g.1 h }),
    )

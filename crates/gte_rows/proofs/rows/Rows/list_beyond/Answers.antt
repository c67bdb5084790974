-- A value is outside where it is not within.
use mathlib.Core.Bool.{Bool, true, false, not}
use mathlib.Core.Path.{◌≡◌, refl}
use mir.Facts.{to_z-of_z}
use Rattle.gte_rows.proofs.Listings.{one}
use Rattle.gte_rows.proofs.rows.Rows.list_beyond.Goals as goal

twice : (t : Bool) → not (not t) ≡ t
twice true = refl
twice false = refl

pub returns : goal.returns
returns c = let f = c.ranges in
    one _ _ _ f.v (rw (c.within.ensures, twice, to_z-of_z f.v, to_z-of_z f.lo, to_z-of_z f.hi) at c.list_value.ensures.is) c.list_value.ensures.most

-- The place of the colour that each part of DPCT reads.
use mathlib.Core.Path.{◌≡◌, refl}
use mathlib.Core.List.{List}
use Prim.Native.Nat.{ℕ, zero, suc, ◌+◌, ◌<◌}
use native.Mathlib.Omega.{arith}
use lib.ListN.{get_or}
use Rattle.gte_inputs.specs.Inputs.{inputs_of, queued}

pub place : (w : List ℕ) (k : ℕ) → k < 3 → get_or w (k + 20) 0 ≡ queued k (inputs_of w)
unfolding inputs_of
place w zero h = refl
place w (suc zero) h = refl
place w (suc (suc zero)) h = refl
place w (suc (suc (suc k))) h = let e : ⊥ = omega arith in absurd e

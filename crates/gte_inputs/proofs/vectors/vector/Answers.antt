-- The halves of two words, whose place is twice the number of the vector.
use borrow.Author.Rules.{rules}
use mathlib.Core.Path.{◌≡◌, refl}
use mathlib.Core.List.{List}
use Prim.Native.Nat.{ℕ, zero, suc, ◌*◌, ◌<◌}
use native.Mathlib.Omega.{arith}
use Rattle.gte_inputs.specs.Inputs.{vector_of, inputs_of, normal}
use Rattle.gte_inputs.proofs.vectors.vector.Goals as goal

placed : (k : ℕ) (w : List ℕ) → k < 3 → normal k (inputs_of w) ≡ vector_of w (k * 2)
unfolding inputs_of
placed zero w h = refl
placed (suc zero) w h = refl
placed (suc (suc zero)) w h = refl
placed (suc (suc (suc n))) w h = absurd (omega arith)

pub returns : goal.returns
unfolding vector_of
returns c = rw (placed c.args.k c.args.c.now c.requires) (search rules)

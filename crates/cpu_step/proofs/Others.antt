-- Every effect but a command is the same, whatever a command does.
use mathlib.Core.Path.{◌≡◌, refl}
use Prim.Native.Nat.{ℕ}
use Rattle.cpu_execute.specs.declared.Effect.{Effect}
use Rattle.cpu_execute.specs.declared.Effect.TheVariants as E
use Rattle.cpu_state.specs.State.{State}
use Rattle.cpu_perform.specs.Perform.{Tick, perform_of}

pub other : (f g : ℕ → State → Tick) (e : Effect) (s : State) → ((word : ℕ) → e ≡ E.Command word → ⊥) → perform_of f e s ≡ perform_of g e s
unfolding perform_of
other f g (E.Write n v) s h = refl
other f g (E.Jump t) s h = refl
other f g (E.Link n link t) s h = refl
other f g (E.Product x) s h = refl
other f g (E.Load k n v) s h = refl
other f g (E.Store k x v) s h = refl
other f g (E.Trap code) s h = refl
other f g (E.ReadSystem n k) s h = refl
other f g (E.WriteSystem k v) s h = refl
other f g E.Restore s h = refl
other f g (E.ReadGeometry n k) s h = refl
other f g (E.WriteGeometry k v) s h = refl
other f g (E.Command word) s h = absurd (h word refl)
other f g (E.LoadGeometry k v) s h = refl
other f g (E.StoreGeometry k v) s h = refl

-- Laws of a run: a step that does not stop goes on, and a run that has stopped stays.
use Prim.Native.Nat.{ℕ, zero, suc, ◌+◌}
use native.Mathlib.Nat.{add-zero, add-suc}
use native.Mathlib.Numerals.{add-one}
use mathlib.Core.Bool.{Bool, true, false, cond}
use mathlib.Core.Path.{◌≡◌, sym, ap, ◌∙◌}
use Rattle.cpu_state.specs.State.{State}
use Rattle.cpu_perform.specs.Perform.{Tick, tick}
use Rattle.cpu_step.specs.Step.{step_of}
use Rattle.run.specs.Run.{Run, ran, further, onwards, run_of}

one_more : (i : ℕ) (s₀ s : State) (t : Tick) → run_of i s₀ ≡ ran false i s → t ≡ step_of s → run_of (i + 1) s₀ ≡ further (ran false i s) t
unfolding run_of onwards
one_more i s₀ s t h e = ap (λ (n : ℕ). run_of n s₀) (add-one i) ∙ ap onwards h ∙ ap (further (ran false i s)) (sym e)

pub goes_on : (i : ℕ) (s₀ s s₁ : State) (b : Bool) → run_of i s₀ ≡ ran false i s → tick b s₁ ≡ step_of s → b ≡ false → run_of (i + 1) s₀ ≡ ran false (i + 1) s₁
goes_on i s₀ s s₁ b h e f = one_more i s₀ s (tick b s₁) h e ∙ ap (λ (x : Bool). further (ran false i s) (tick x s₁)) f

stopped : (r : Run) → r.stop ≡ true → onwards r ≡ r
unfolding onwards
stopped r h = ap (λ (b : Bool). cond b r (further r (step_of r.last))) h

-- once stopped, a run stays
pub stays : (n d : ℕ) (s : State) → (run_of n s).stop ≡ true → run_of (n + d) s ≡ run_of n s
unfolding run_of onwards
stays n zero s h = ap (λ (k : ℕ). run_of k s) (add-zero n)
stays n (suc d) s h = ap (λ (k : ℕ). run_of k s) (add-suc n d) ∙ ap onwards (stays n d s h) ∙ stopped (run_of n s) h

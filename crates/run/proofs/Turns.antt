-- Laws that the loop keeps: a search that goes on has every step behind it, and one that has ended stays.
use Prim.Native.Nat.{ℕ, zero, suc, ◌+◌, ◌-◌, ◌<◌, ◌≤◌}
use native.Mathlib.Nat.{add-zero, add-suc}
use native.Mathlib.Numerals.{add-one}
use native.Mathlib.Omega.{arith}
use mathlib.Core.Bool.{Bool, true, false, cond}
use mathlib.Core.Path.{◌≡◌, refl, sym, ap, ◌∙◌}
use lib.Dec.{eqb}
use Rattle.memory.specs.Memory.{SameLengths}
use Rattle.cpu_state.specs.State.{State}
use Rattle.cpu_perform.specs.Perform.{Tick, tick}
use Rattle.cpu_step.specs.Step.{step_of}
use Rattle.run.specs.Search.{clear_of, rises_of, found_of, Search, sought, further_by, search_on, search_of}

-- what holds after i steps of a search from s₀ that goes on: it is at s
pub record After (mask count i : ℕ) (clear : Bool) (s₀ s : State) : Type 0 where
  pub below : i ≤ count
  pub long : SameLengths s.memory s₀.memory
  pub flag : clear ≡ clear_of mask s
  pub run : search_of mask i s₀ ≡ sought 0 i s

pub none : (mask : ℕ) (s : State) → search_of mask 0 s ≡ sought 0 0 s
unfolding search_of
none mask s = refl

one_more : (mask i : ℕ) (s₀ s : State) (t : Tick) → search_of mask i s₀ ≡ sought 0 i s → t ≡ step_of s → search_of mask (i + 1) s₀ ≡ further_by mask (sought 0 i s) t
unfolding search_of search_on
one_more mask i s₀ s t h e = ap (λ (n : ℕ). search_of mask n s₀) (add-one i) ∙ ap (search_on mask) h ∙ ap (further_by mask (sought 0 i s)) (sym e)

-- the step completes: the search is at its machine, ended if a bit comes up
pub goes_on : (mask i : ℕ) (s₀ s s₁ : State) (x : Bool) → search_of mask i s₀ ≡ sought 0 i s → tick false s₁ ≡ step_of s → rises_of mask s s₁ ≡ x → search_of mask (i + 1) s₀ ≡ sought (found_of x) (i + 1) s₁
goes_on mask i s₀ s s₁ x h e r = one_more mask i s₀ s (tick false s₁) h e ∙ ap (λ (q : Bool). sought (found_of q) (i + 1) s₁) r

ended : (mask : ℕ) (r : Search) → eqb r.code 0 ≡ false → search_on mask r ≡ r
unfolding search_on
ended mask r h = ap (λ (b : Bool). cond b (further_by mask r (step_of r.last)) r) h

stays : (mask n d : ℕ) (s : State) → eqb (search_of mask n s).code 0 ≡ false → search_of mask (n + d) s ≡ search_of mask n s
unfolding search_of search_on
stays mask n zero s h = ap (λ (k : ℕ). search_of mask k s) (add-zero n)
stays mask n (suc d) s h = ap (λ (k : ℕ). search_of mask k s) (add-suc n d) ∙ ap (search_on mask) (stays mask n d s h) ∙ ended mask (search_of mask n s) h

-- a search that ended before its count is over
pub over : (mask i count code n : ℕ) (s₀ s : State) → i ≤ count → eqb code 0 ≡ false → search_of mask i s₀ ≡ sought code n s → sought code n s ≡ search_of mask count s₀
over mask i count code n s₀ s le c h =
    let len : i + (count - i) ≡ count = omega arith in
    sym h ∙ sym (stays mask i (count - i) s₀ (ap (λ (q : Search). eqb q.code 0) h ∙ c)) ∙ ap (λ (k : ℕ). search_of mask k s₀) len

pub stops : (mask i count : ℕ) (s₀ s s₁ : State) → i < count → search_of mask i s₀ ≡ sought 0 i s → tick true s₁ ≡ step_of s → sought 5 i s₁ ≡ search_of mask count s₀
stops mask i count s₀ s s₁ lt h e = over mask (i + 1) count 5 i s₀ s₁ (omega arith) refl (one_more mask i s₀ s (tick true s₁) h e)

-- Laws of runs on machines: one step more, a steps and then b, what every run keeps.
use Prim.Native.Nat.{ℕ, zero, suc, ◌+◌, ◌≤◌}
use native.Mathlib.Nat.{add-zero, add-suc}
use native.Mathlib.Omega.{arith}
use mathlib.Core.Bool.{Bool, true, false, cond, ◌||◌}
use mathlib.Core.Path.{◌≡◌, refl, sym, ap, ap₂, ◌∙◌}
use Rattle.memory.specs.Memory.{SameLengths}
use Rattle.memory.proofs.Lengths.{same, then_same}
use Rattle.cpu_state.specs.State.{State}
use Rattle.cpu_perform.specs.Perform.{Tick, tick}
use Rattle.cpu_step.specs.Step.{step_of}
use Rattle.run.specs.Run.{Run, ran, further, onwards, run_of}
use Rattle.step_laws.specs.Formed.{StateFormed}
use Rattle.step_laws.proofs.Formed.{step_formed}
use Rattle.step_laws.specs.Kept.{Kept}
use Rattle.step_laws.proofs.Kept.{step_kept}
use Rattle.run_laws.specs.Runs.{OneMore, joined, ThenMore}

pub one_more : OneMore
unfolding run_of
one_more k s = refl

-- ---- what every run keeps

-- by the run's stop: what a step more keeps
pub record Going (n : ℕ) (s : State) (r : Run) : Type 0 where
  pub most : r.steps ≤ n
  pub long : SameLengths r.last.memory s.memory
  pub stays : r.stop ≡ true → step_of r.last ≡ tick true r.last

tick_is : (t : Tick) (s : State) → t.stop ≡ true → t.after ≡ s → t ≡ tick true s
tick_is t s h e = ap₂ tick h e

step_on : (n : ℕ) (s : State) (r : Run) (t : Tick) → step_of r.last ≡ t → Kept t r.last → Going n s r → Going (suc n) s (further r t)
step_on n s r t e k g = record { most = by_stop t.stop; long = then_same _ _ _ k.long g.long; stays = λ h. again h }
  where
    by_stop : (b : Bool) → cond b r.steps (r.steps + 1) ≤ suc n
    by_stop true = omega (arith, g.most)
    by_stop false = omega (arith, g.most)

    again : t.stop ≡ true → step_of t.after ≡ tick true t.after
    again h =
        let a : t.after ≡ r.last = k.stays h in
        ap step_of a ∙ e ∙ tick_is t r.last h a ∙ ap (tick true) (sym a)

on_by : (b : Bool) (n : ℕ) (s : State) (r : Run) → Going n s r → Going (suc n) s (cond b r (further r (step_of r.last)))
on_by true n s r g = record { most = omega (arith, g.most); long = g.long; stays = g.stays }
on_by false n s r g = step_on n s r (step_of r.last) refl (step_kept r.last) g

pub run_going : (n : ℕ) (s : State) → Going n s (run_of n s)
unfolding run_of onwards
run_going zero s = record { most = omega arith; long = same _; stays = λ h. let z : ◌≡◌ {A = ℕ} 0 1 = ap (λ (b : Bool). cond b 1 0) h in absurd (omega arith) }
run_going (suc n) s = on_by (run_of n s).stop n s (run_of n s) (run_going n s)

formed_by : (b : Bool) (r : Run) → StateFormed r.last → StateFormed (cond b r (further r (step_of r.last))).last
formed_by true r g = g
formed_by false r g = step_formed r.last g

-- a formed machine stays formed, for every run
pub run_formed : (n : ℕ) (s : State) → StateFormed s → StateFormed (run_of n s).last
unfolding run_of onwards
run_formed zero s g = g
run_formed (suc n) s g = formed_by (run_of n s).stop (run_of n s) (run_formed n s g)

-- ---- a steps and then b
or_false : (b : Bool) → (b || false) ≡ b
or_false true = refl
or_false false = refl

and_none : (r : Run) → r ≡ ran (r.stop || false) (r.steps + 0) r.last
and_none r = ap₂ (λ (b : Bool) (n : ℕ). ran b n r.last) (sym (or_false r.stop)) (sym (add-zero r.steps))

-- one step more of the second run is one step more of both together
joined_on : (r q : Run) → (r.stop ≡ true → step_of q.last ≡ tick true q.last) → onwards (joined r q) ≡ joined r (onwards q)
unfolding onwards
joined_on r q h = by_first r.stop q.stop h where
  by_first : (b d : Bool) → (b ≡ true → step_of q.last ≡ tick true q.last) → cond (b || d) (ran (b || d) (r.steps + q.steps) q.last) (further (ran (b || d) (r.steps + q.steps) q.last) (step_of q.last)) ≡ joined (ran b r.steps r.last) (cond d (ran d q.steps q.last) (further (ran d q.steps q.last) (step_of q.last)))
  by_first true true f = refl
  by_first true false f = sym (ap (λ (t : Tick). joined (ran true r.steps r.last) (further (ran false q.steps q.last) t)) (f refl))
  by_first false true f = refl
  by_first false false f = steps_of (step_of q.last) where
    steps_of : (t : Tick) → further (ran false (r.steps + q.steps) q.last) t ≡ joined (ran false r.steps r.last) (further (ran false q.steps q.last) t)
    steps_of t = by_stop t.stop where
      by_stop : (b : Bool) → ran b (cond b (r.steps + q.steps) (r.steps + q.steps + 1)) t.after ≡ ran b (r.steps + cond b q.steps (q.steps + 1)) t.after
      by_stop true = refl
      by_stop false = ap (λ (n : ℕ). ran false n t.after) (omega arith)

stands : (d : Bool) (q : Run) → step_of q.last ≡ tick true q.last → step_of (cond d q (further q (step_of q.last))).last ≡ tick true (cond d q (further q (step_of q.last))).last
stands true q h = h
stands false q h = let a : (step_of q.last).after ≡ q.last = ap (λ (t : Tick). t.after) h in ap step_of a ∙ h ∙ ap (tick true) (sym a)

-- once the first has stopped the second stands where it stood
stopped_on : (r : Run) (b : ℕ) → (r.stop ≡ true → step_of r.last ≡ tick true r.last) → r.stop ≡ true → step_of (run_of b r.last).last ≡ tick true (run_of b r.last).last
unfolding run_of onwards
stopped_on r zero f h = f h
stopped_on r (suc b) f h = stands (run_of b r.last).stop (run_of b r.last) (stopped_on r b f h)

pub then_more : ThenMore
unfolding run_of
then_more a zero s = ap (λ (k : ℕ). run_of k s) (add-zero a) ∙ and_none (run_of a s)
then_more a (suc b) s =
    ap (λ (k : ℕ). run_of k s) (add-suc a b) ∙ ap onwards (then_more a b s)
    ∙ joined_on (run_of a s) (run_of b (run_of a s).last) (λ h. stopped_on (run_of a s) b (run_going a s).stays h)

-- What a search for a bit of FLAG tells of the run: it ends at the first step at which a bit of the mask comes up.
use Rattle.std.specs.Prelude.{Bool, true, false, ◌||◌, ◌≡◌, ℕ, suc, ◌<◌, ◌≤◌, eqb}
use Rattle.cpu_state.specs.State.{State}
use Rattle.cpu_step.specs.Step.{step_of}
use Rattle.run.specs.Run.{ran, run_of}
use Rattle.run.specs.Search.{rises_of, Search, search_of}

-- step i + 1 of the run from s brings a bit of the mask up
abbrev pub rises_at : ℕ → State → ℕ → Bool
rises_at mask s i = rises_of mask (run_of i s).last (run_of (suc i) s).last

-- n is the count
pub record Searched (mask n : ℕ) (s : State) (r : Search) : Type 0 where
  -- the code is 0, 5 or 16, and no more steps are done than were asked for
  pub codes : (eqb r.code 0 || (eqb r.code 5 || eqb r.code 16)) ≡ true
  pub most : r.steps ≤ n
  -- the machine is where a run of as many steps ends
  pub reached : run_of r.steps s ≡ ran false r.steps r.last
  -- no step before the last brings a bit up, and the last does exactly when the code says so
  pub before : (i : ℕ) → suc i < r.steps → rises_at mask s i ≡ false
  pub last_step : (i : ℕ) → suc i ≡ r.steps → rises_at mask s i ≡ eqb r.code 16
  -- code 0: all steps are done; code 5: steps remain, and the next one stops; code 16: at least one step is done
  pub all : r.code ≡ 0 → r.steps ≡ n
  pub stopped : r.code ≡ 5 → (r.steps < n) × ((step_of r.last).stop ≡ true)
  pub found : r.code ≡ 16 → 0 < r.steps

abbrev pub SearchExact : Type 0
SearchExact = (mask n : ℕ) (s : State) → Searched mask n s (search_of mask n s)

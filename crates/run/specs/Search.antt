-- The first step of a run at which a bit of FLAG comes up.
use Rattle.std.specs.Prelude.{Bool, cond, not, ◌&&◌, ℕ, zero, suc, ◌+◌, eqb}
use Rattle.std.specs.Int.Bits.{bit_and}
use Rattle.gte_registers.specs.Registers.{reg}
use Rattle.cpu_state.specs.State.{State}
use Rattle.cpu_perform.specs.Perform.{Tick}
use Rattle.cpu_step.specs.Step.{step_of}
use Rattle.run.specs.Run.{Run}
use Rattle.run.specs.declared.End.{End}
use Rattle.run.specs.declared.End.TheVariants.{Counted, Unlisted, Flag}

-- none of a mask's bits is set in FLAG
abbrev pub clear_of : ℕ → State → Bool
clear_of mask s = eqb (bit_and (reg s.geometry 63) mask) 0

-- one comes up between two machines
abbrev pub rises_of : ℕ → State → State → Bool
rises_of mask s t = clear_of mask s && not (clear_of mask t)

-- the number of each end
abbrev pub end_code : End → ℕ
end_code Counted = 0
end_code Unlisted = 5
end_code Flag = 16

-- how the search stands (0: it goes on; 5: before an unlisted COP2 command; 16: a bit has come up), the steps completed, and the
-- machine after them
pub record Search : Type 0 where
  pub code : ℕ
  pub steps : ℕ
  pub last : State

abbrev pub sought : ℕ → ℕ → State → Search
sought code n s = record { code = code; steps = n; last = s }

abbrev pub found_of : Bool → ℕ
found_of rises = cond rises 16 0

abbrev pub further_by : ℕ → Search → Tick → Search
further_by mask r t = cond t.stop (sought 5 r.steps t.after) (sought (found_of (rises_of mask r.last t.after)) (r.steps + 1) t.after)

-- one step more, unless the search has ended
unfoldable pub search_on : ℕ → Search → Search
search_on mask r = cond (eqb r.code 0) (further_by mask r (step_of r.last)) r

unfoldable pub search_of : ℕ → ℕ → State → Search
search_of mask zero s = sought 0 0 s
search_of mask (suc n) s = search_on mask (search_of mask n s)

-- a run, as a search that no bit has ended
abbrev pub searched_by : Run → Search
searched_by r = sought (cond r.stop 5 0) r.steps r.last

-- Demands 2 and 3 over runs, demand 3 in whole numbers (01 "GTE arithmetic").
use Rattle.std.specs.Prelude.{true, false, Ok, List, ◌≡◌, ℕ, suc, ◌≤◌}
use Rattle.cpu_decode.specs.Decode.{decode_of}
use Rattle.cpu_decode.specs.Owners.{owner_of}
use Rattle.cpu_decode.specs.declared.operations.Op.TheVariants.{Command}
use Rattle.memory.specs.Memory.{Memory}
use Rattle.cpu_state.specs.System.{usable_of}
use Rattle.cpu_state.specs.State.{State}
use Rattle.cpu_step.specs.Step.{fetched, step_of}
use Rattle.words.specs.Words.{bit_at}
use Rattle.gte_registers.specs.Registers.{reg}
use Rattle.gte.specs.Commands.{command_in, sf_of, outcome_of}
use Rattle.gte_laws.specs.Exact.{checks_at, condition}
use Rattle.gte_laws.specs.Demand.{tolerance, Near, Goes}
use Rattle.image.specs.Image.{geometry_in, machine_of, image_of}
use Rattle.fliskadee.specs.Answer.{answer_of}
use Rattle.run_laws.specs.Runs.{Accepted, steps_in}

-- the next step carries out a COP2 command word: it is fetched, and usable, so the step takes no exception
pub record CarriesOut (word : ℕ) (s : State) : Type 0 where
  pub at_pc : fetched s ≡ Ok word
  pub usable : usable_of (owner_of word) s.control.system ≡ true
  pub command : decode_of word ≡ Command

-- Step k + 1 of any run from an accepted image that the run completes, n being the run's count: the image before the step is what
-- a run from the same start leaves with count k, the image after it what one leaves with count k + 1.

-- Demand 2. Image, RAM and pad after the step are one step of 01 from those before; and where the step carries out a listed command, each
-- bit of FLAG is set exactly under its named condition, worked out from the registers before.
pub record StepExact (i : List ℕ) (m : Memory) (k : ℕ) : Type 0 where
  pub goes : (step_of (machine_of (answer_of i m k).image (answer_of i m k).memory)).stop ≡ false
  pub image : (answer_of i m (suc k)).image ≡ image_of (step_of (machine_of (answer_of i m k).image (answer_of i m k).memory)).after
  pub memory_after : (answer_of i m (suc k)).memory ≡ (step_of (machine_of (answer_of i m k).image (answer_of i m k).memory)).after.memory
  pub flag : (word b : ℕ)
      → CarriesOut word (machine_of (answer_of i m k).image (answer_of i m k).memory)
      → outcome_of word ≡ Ok tt
      → bit_at b (reg (geometry_in (answer_of i m (suc k)).image) 63) ≡ condition b (checks_at word (geometry_in (answer_of i m k).image))

abbrev pub Demand2 : Type 0
Demand2 = (i : List ℕ) (m : Memory) (n k : ℕ) → Accepted i → suc k ≤ steps_in (answer_of i m n) → StepExact i m k

-- Demand 3. The step carries out RTPS or RTPT with sf = 1, and bit 31 of register 63 is clear after it. Then each vertex v, which
-- went to register r, is near its exact place, which `Near` works out from the registers before.
abbrev pub Demand3 : Type 0
Demand3 =
    (i : List ℕ) (m : Memory) (n k word v r : ℕ)
    → Accepted i
    → suc k ≤ steps_in (answer_of i m n)
    → CarriesOut word (machine_of (answer_of i m k).image (answer_of i m k).memory)
    → sf_of word ≡ true
    → bit_at 31 (reg (geometry_in (answer_of i m (suc k)).image) 63) ≡ false
    → Goes (command_in word) v r
    → Near tolerance (geometry_in (answer_of i m k).image) v (reg (geometry_in (answer_of i m (suc k)).image) r)

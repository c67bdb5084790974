-- Laws of runs: one step more, a steps and then b, an accepted image is accepted again (demand 1), and count 0.
use Rattle.std.specs.Prelude.{true, cond, ◌||◌, List, ◌≡◌, ℕ, suc, ◌+◌, ◌/◌, ◌%◌, ◌<◌, ◌≤◌, eqb, length, get_or}
use Rattle.cpu_state.specs.State.{State}
use Rattle.memory.specs.Memory.{Memory, SameLengths}
use Rattle.image.specs.Image.{image_length, machine_of, image_of}
use Rattle.image.specs.Formed.{well_formed}
use Rattle.step_laws.specs.Formed.{StateFormed}
use Rattle.run.specs.Run.{Run, ran, onwards, run_of}
use Rattle.fliskadee.specs.Find.{Answer, answer, find_of}
use Rattle.fliskadee.specs.Answer.{answer_of}
use Rattle.image.specs.Refusals.{most_steps, refusal_of}

-- ---- on machines

-- a run of k + 1 steps is one step after a run of k
abbrev pub OneMore : Type 0
OneMore = (k : ℕ) (s : State) → run_of (suc k) s ≡ onwards (run_of k s)

-- a run and then another: stopped if one of them is, with the steps of both
abbrev pub joined : Run → Run → Run
joined r q = ran (r.stop || q.stop) (r.steps + q.steps) q.last

abbrev pub ThenMore : Type 0
ThenMore = (a b : ℕ) (s : State) → run_of (a + b) s ≡ joined (run_of a s) (run_of b (run_of a s).last)

-- ---- on images, as a host sees them

-- codes 1 and 2 do not refuse it
pub record Accepted (i : List ℕ) : Type 0 where
  pub long : length i ≡ image_length
  pub formed : well_formed i ≡ true

-- the image of a machine that an accepted image describes is accepted, and describes that machine
pub record Described (s : State) : Type 0 where
  pub accepted : Accepted (image_of s)
  pub back : machine_of (image_of s) s.memory ≡ s

abbrev pub ImageDescribes : Type 0
ImageDescribes = (s : State) → StateFormed s → Described s

-- the answer's number, taken apart
abbrev pub code_in : Answer → ℕ
code_in a = a.number / 1048576

abbrev pub steps_in : Answer → ℕ
steps_in a = a.number % 1048576

-- an answer leaves an accepted image, and RAM and pad as long as they were
pub record Again (m : Memory) (a : Answer) : Type 0 where
  pub accepted : Accepted a.image
  pub long : SameLengths a.memory m

-- every call of the run leaves an accepted image accepted, and so does every search for a bit of FLAG
abbrev pub AcceptedAgain : Type 0
AcceptedAgain = (i : List ℕ) (m : Memory) (count : ℕ) → Accepted i → Again m (answer_of i m count)

abbrev pub FoundAgain : Type 0
FoundAgain = (i : List ℕ) (m : Memory) (count mask : ℕ) → Accepted i → Again m (find_of i m count mask)

-- a steps and then b from what they left are a + b steps: in image, memory, steps and code
pub record Cut (first second whole : Answer) : Type 0 where
  pub image : whole.image ≡ second.image
  pub memory : whole.memory ≡ second.memory
  pub steps : steps_in whole ≡ steps_in first + steps_in second
  pub code : code_in whole ≡ cond (eqb (code_in first) 5) 5 (code_in second)

abbrev pub CutInTwo : Type 0
CutInTwo =
    (i : List ℕ) (m : Memory) (a b : ℕ)
    → refusal_of i m a ≡ 0
    → a + b ≤ most_steps
    → Cut (answer_of i m a) (answer_of (answer_of i m a).image (answer_of i m a).memory b) (answer_of i m (a + b))

-- every element is a byte, as in lent memory
abbrev pub Bytes : List ℕ → Type 0
Bytes m = (i : ℕ) → get_or m i 0 < 256

-- "If none of 1 to 4 applies, count 0 answers 0 and changes nothing."; code 6 is now one of them
abbrev pub CountZero : Type 0
CountZero = (i : List ℕ) (m : Memory) → Bytes i → refusal_of i m 0 ≡ 0 → answer_of i m 0 ≡ answer 0 i m

-- a run that completes no step, as one that stops before its first, changes nothing
abbrev pub NothingDone : Type 0
NothingDone =
    (i : List ℕ) (m : Memory) (count : ℕ)
    → Bytes i
    → Accepted i
    → steps_in (answer_of i m count) ≡ 0
    → ((answer_of i m count).image ≡ i) × ((answer_of i m count).memory ≡ m)

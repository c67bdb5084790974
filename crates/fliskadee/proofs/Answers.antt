-- With mask 0 a search is the run.
use Prim.Native.Nat.{ℕ}
use mathlib.Core.List.{List}
use mathlib.Core.Path.{◌≡◌}
use Rattle.memory.specs.Memory.{Memory}
use Rattle.image.specs.Image.{machine_of}
use Rattle.run.proofs.Same.{search_run}
use Rattle.fliskadee.specs.Find.{find_of}
use Rattle.fliskadee.specs.Answer.{answer_of}

-- ---- with mask 0 no bit ends the run
pub find_run : (i : List ℕ) (m : Memory) (count : ℕ) → find_of i m count 0 ≡ answer_of i m count
unfolding find_of answer_of
find_run i m count = rw (search_run count (machine_of i m))

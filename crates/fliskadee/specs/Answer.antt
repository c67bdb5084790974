-- What a call of the run answers, and what the image and memory then hold (01 "The run and its numbers").
use Rattle.std.specs.Prelude.{Bool, cond, List, ℕ}
use Rattle.memory.specs.Memory.{Memory}
use Rattle.image.specs.Image.{machine_of, image_of}
use Rattle.run.specs.Run.{Run, run_of}
use Rattle.image.specs.Refusals.{refusal_of}
use Rattle.fliskadee.specs.Find.{Answer, answer, packed, unless_refused}

-- ---- the run

-- code 5: steps remain, and the next instruction is a usable COP2 command that is not listed; 0: all steps done
abbrev pub code_of : Bool → ℕ
code_of stop = cond stop 5 0

-- the state after the steps that were completed
abbrev pub finished : Run → Answer
finished r = answer (packed (code_of r.stop) r.steps) (image_of r.last) r.last.memory

unfoldable pub answer_of : List ℕ → Memory → ℕ → Answer
answer_of i m count = unless_refused (refusal_of i m count) i m (finished (run_of count (machine_of i m)))

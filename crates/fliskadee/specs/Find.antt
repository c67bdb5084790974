-- What the run of an image answers where it may end at a bit of FLAG, and what the image and memory then hold.
use Rattle.std.specs.Prelude.{cond, List, ℕ, ◌+◌, ◌*◌, eqb, Result, Ok, Err}
use Rattle.answer.specs.declared.Refusal.{Refusal}
use Rattle.answer.specs.Codes.{code_of}
use Rattle.memory.specs.Memory.{Memory}
use Rattle.image.specs.Image.{machine_of, image_of}
use Rattle.run.specs.declared.End.{End}
use Rattle.run.specs.Search.{Search, search_of, end_code}
use Rattle.image.specs.Refusals.{refusal_of}

pub record Answer : Type 0 where
  pub number : ℕ
  pub image : List ℕ
  pub memory : Memory

abbrev pub answer : ℕ → List ℕ → Memory → Answer
answer n i m = record { number = n; image = i; memory = m }

-- code × 1,048,576 + steps completed
abbrev pub packed : ℕ → ℕ → ℕ
packed code steps = code * 1048576 + steps

-- the same of how a run ended and its steps, or of why it was refused
abbrev pub packed_of : Result (End × ℕ) Refusal → ℕ
packed_of (Ok x) = packed (end_code x.0) x.1
packed_of (Err e) = packed (code_of e) 0

-- refused: no step is done, and nothing has changed
abbrev pub unless_refused : ℕ → List ℕ → Memory → Answer → Answer
unless_refused code i m a = cond (eqb code 0) a (answer (packed code 0) i m)

-- ---- the run that ends where a bit of a mask comes up in FLAG: code 16
abbrev pub found : Search → Answer
found r = answer (packed r.code r.steps) (image_of r.last) r.last.memory

unfoldable pub find_of : List ℕ → Memory → ℕ → ℕ → Answer
find_of i m count mask = unless_refused (refusal_of i m count) i m (found (search_of mask count (machine_of i m)))

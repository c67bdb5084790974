-- The codes of refused calls, and what a call answers by a code and a number (01 "The run and its numbers", and the tickets of 02).
use Rattle.std.specs.Prelude.{ℕ, Result, Ok, Err}
use Rattle.answer.specs.declared.Answer.{Answer}
use Rattle.answer.specs.declared.Refusal.{Refusal}
use Rattle.answer.specs.declared.Refusal.TheVariants as R

abbrev pub code_of : Refusal → ℕ
code_of R.ImageLength = 1
code_of R.ImageForm = 2
code_of R.RamLength = 3
code_of R.Count = 4
code_of R.Command = 5
code_of R.PadLength = 6
code_of (R.File n) = 7
code_of (R.Space n) = 8
code_of (R.UnknownPacket n) = 11
code_of (R.CutPacket n) = 12

-- the number beside a code
abbrev pub number_of : Refusal → ℕ
number_of R.ImageLength = 0
number_of R.ImageForm = 0
number_of R.RamLength = 0
number_of R.Count = 0
number_of R.Command = 0
number_of R.PadLength = 0
number_of (R.File n) = n
number_of (R.Space n) = n
number_of (R.UnknownPacket n) = n
number_of (R.CutPacket n) = n

abbrev pub refused_by : Refusal → Answer
refused_by e = record { code = code_of e; number = number_of e }

-- code 0 and the number of a call that is not refused
abbrev pub answer_of : Result ℕ Refusal → Answer
answer_of (Ok n) = record { code = 0; number = n }
answer_of (Err e) = refused_by e

-- the code of an outcome: 0 where it is no refusal
abbrev pub code_in : {T : Type 0} → Result T Refusal → ℕ
code_in (Ok x) = 0
code_in (Err e) = code_of e

-- and the number beside it, of a call that has none where it is not refused
abbrev pub number_in : {T : Type 0} → Result T Refusal → ℕ
number_in (Ok x) = 0
number_in (Err e) = number_of e

abbrev pub done_or : Result Unit Refusal → Answer
done_or r = record { code = code_in r; number = number_in r }

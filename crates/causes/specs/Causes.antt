-- What a question for causes answers, and what the lent words then hold (02, Ticket 5).
use Rattle.std.specs.Prelude.{cond, List, [], ◌∷◌, ◌++◌, ◌≡◌, ℕ, eqb, leb, length, drop, Result}
use Rattle.gte_rows.specs.Rows.{words_of, PartsWhole}
use Rattle.gte.specs.Commands.{outcome_of, is_done}
use Rattle.gte_causes.specs.Causes.{parts_at, rows_at}
use Rattle.answer.specs.Codes.{answer_of}
use Rattle.answer.specs.declared.Answer.{Answer}
use Rattle.answer.specs.declared.Refusal.{Refusal}
use Rattle.image.specs.Image.{geometry_in}
use Rattle.image.specs.Refusals.{Test, ◌else◌, first_of, image_tests}

pub record Answered : Type 0 where
  pub answer : Answer
  pub words : List ℕ

abbrev pub answered : ℕ → ℕ → List ℕ → Answered
answered code number ws = record { answer = record { code = code; number = number }; words = ws }

-- the same of an outcome
abbrev pub answered_as : Result ℕ Refusal → List ℕ → Answered
answered_as r ws = record { answer = answer_of r; words = ws }

-- the words of the rows that the command has on the image's COP2 registers; SR and the rest of the machine are not asked
abbrev pub cause_words : List ℕ → ℕ → List ℕ
cause_words m word = words_of (rows_at word (geometry_in m))

-- the rows fit into the lent words, or 8
abbrev pub space_test : List ℕ → List ℕ → Test
space_test rows ws = leb (length rows) (length ws) else 8

-- codes 1 and 2 as in a run, then 5, then 8; 0: not refused
unfoldable pub code_of : List ℕ → ℕ → List ℕ → ℕ
code_of m word ws = first_of (image_tests m ((is_done (outcome_of word) else 5) ∷ space_test (cause_words m word) ws ∷ []))

-- the number beside a code: that of the rows' words where they are listed, or would be with more space
unfoldable pub number_of : ℕ → List ℕ → ℕ
number_of code rows = cond (eqb code 0) (length rows) (cond (eqb code 8) (length rows) 0)

-- code 0: the rows stand at the beginning, and behind them is what was there; every other code: nothing is written
unfoldable pub words_after : ℕ → List ℕ → List ℕ → List ℕ
words_after code rows ws = cond (eqb code 0) (rows ++ drop (length rows) ws) ws

abbrev pub answered_by : ℕ → List ℕ → List ℕ → Answered
answered_by code rows ws = answered code (number_of code rows) (words_after code rows ws)

unfoldable pub causes_of : List ℕ → ℕ → List ℕ → Answered
causes_of m word ws = answered_by (code_of m word ws) (cause_words m word) ws

-- where the image is accepted and the command listed
unfoldable pub fitting : List ℕ → List ℕ → Answered
fitting rows ws = answered_by (first_of (space_test rows ws ∷ [])) rows ws

-- a call on an image, a command word and lent words: what it answers, and what the words then hold. Where rows are listed, no value is
-- longer than the two words that a row has for it
pub record Causes (m : List ℕ) (word : ℕ) (ws : List ℕ) (a : Answer) (ws' : List ℕ) : Type 0 where
  pub is : answered a.code a.number ws' ≡ causes_of m word ws
  pub whole : a.code ≡ 0 → PartsWhole (parts_at word (geometry_in m))

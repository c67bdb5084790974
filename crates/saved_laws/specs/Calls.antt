-- What is proved of a save and a load (02, Ticket 3), on what the two calls answer and leave.
use Rattle.std.specs.Prelude.{cond, List, ◌++◌, ◌≡◌, ℕ, ◌≤◌, leb, length, take, drop}
use Rattle.memory.specs.Memory.{memory}
use Rattle.image.specs.Refusals.{most_steps, refusal_of}
use Rattle.saved_format.specs.Format.{Bytes}
use Rattle.saved_format.specs.Writing.{file_length}
use Rattle.saved.specs.Save.{Saved, saved, save_code, save_of}
use Rattle.saved.specs.Load.{Loaded, loaded, Loads}

-- a load has no two outcomes
abbrev pub OneOutcome : Type 0
OneOutcome = (file image ram pad : List ℕ) (a b : Loaded) → Loads file image ram pad a → Loads file image ram pad b → a ≡ b

-- o is the outcome of a load, and the only one
pub record Outcome (file image ram pad : List ℕ) (o : Loaded) : Type 0 where
  pub is : Loads file image ram pad o
  pub only : (a : Loaded) → Loads file image ram pad a → a ≡ o

-- the answer of a load is determined: for every file and all buffers there is one code, one number and one content of the buffers afterwards
abbrev pub EveryLoad : Type 0
EveryLoad = (file image ram pad : List ℕ) → Bytes file → (o : Loaded) × Outcome file image ram pad o

-- writing then reading: a load of what a save wrote, into buffers of the same lengths, gives back image, RAM and pad
abbrev pub Back : Type 0
Back =
    (image ram pad space image' ram' pad' : List ℕ) → Bytes image → Bytes ram → Bytes pad → (save_of image ram pad space).code ≡ 0
    → length image' ≡ length image → length ram' ≡ length ram → length pad' ≡ length pad
    → Outcome (take (save_of image ram pad space).number (save_of image ram pad space).space) image' ram' pad' (loaded 0 0 image ram pad)

-- reading then writing: a save of what a load left gives back the file's bytes, where the space has room for them
abbrev pub Again : Type 0
Again =
    (file image ram pad space : List ℕ) (o : Loaded) → Loads file image ram pad o → o.code ≡ 0
    → save_of o.image o.ram o.pad space ≡ cond (leb (length file) (length space)) (saved 0 (length file) (file ++ drop (length file) space)) (saved 8 0 space)

-- two accepted files with the same meaning are the same bytes
abbrev pub SameFile : Type 0
SameFile =
    (f g image ram pad image' ram' pad' : List ℕ) (o p : Loaded) → Loads f image ram pad o → Loads g image' ram' pad' p → o.code ≡ 0 → p.code ≡ 0
    → o.image ≡ p.image → o.ram ≡ p.ram → o.pad ≡ p.pad → f ≡ g

-- a refused load leaves every lent buffer unchanged, and only code 7 names a number
pub record LoadTold (image ram pad : List ℕ) (o : Loaded) : Type 0 where
  pub kept : (o.code ≡ 0 → ⊥) → o ≡ loaded o.code o.number image ram pad
  pub number : (o.code ≡ 7 → ⊥) → o.number ≡ 0

abbrev pub LoadTells : Type 0
LoadTells = (file image ram pad : List ℕ) (o : Loaded) → Loads file image ram pad o → LoadTold image ram pad o

-- a refused save leaves the space unchanged and answers number 0; one that is not answers the bytes of the file, and leaves those behind
-- them as they were
pub record SaveTold (ram space : List ℕ) (s : Saved) : Type 0 where
  pub kept : (s.code ≡ 0 → ⊥) → s.space ≡ space
  pub none : (s.code ≡ 0 → ⊥) → s.number ≡ 0
  pub number : s.code ≡ 0 → s.number ≡ file_length (length ram)
  pub behind : s.code ≡ 0 → drop s.number s.space ≡ drop s.number space
  pub long : length s.space ≡ length space

abbrev pub SaveTells : Type 0
SaveTells = (image ram pad space : List ℕ) → Bytes image → SaveTold ram space (save_of image ram pad space)

-- what a load left, a run does not refuse, but for its count
abbrev pub LoadedRuns : Type 0
LoadedRuns =
    (file image ram pad : List ℕ) (o : Loaded) (count : ℕ) → Loads file image ram pad o → o.code ≡ 0 → count ≤ most_steps
    → refusal_of o.image (memory o.ram o.pad) count ≡ 0

-- what a run does not refuse, a save does not refuse, but for its space
abbrev pub RunSaves : Type 0
RunSaves =
    (image ram pad space : List ℕ) (count : ℕ) → Bytes image → refusal_of image (memory ram pad) count ≡ 0
    → save_code image ram pad space ≡ cond (leb (file_length (length ram)) (length space)) 0 8

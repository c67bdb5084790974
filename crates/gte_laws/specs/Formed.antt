-- What a write or a command leaves is well formed (01 "The machine image": "every COP2 word equals what a read of that register
-- returns"), so that an image that was accepted is accepted when it comes back.
use Rattle.std.specs.Prelude.{List, ℕ}
use Rattle.gte_registers.specs.Registers.{WellFormed, write_of}
use Rattle.gte.specs.Commands.{command_of}

-- whatever was there before
abbrev pub WriteFormed : Type 0
WriteFormed = (w : List ℕ) (i x : ℕ) → WellFormed (write_of w i x)

-- a command that is not listed leaves what was there
abbrev pub CommandFormed : Type 0
CommandFormed = (word : ℕ) (w : List ℕ) → WellFormed w → WellFormed (command_of word w)

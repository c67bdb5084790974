-- Cop0 bit by bit: each bit of the words that the definitions build by arithmetic is the bit of 01's sentence.
use Rattle.std.specs.Prelude.{Bool, false, ◌&&◌, ◌≡◌, ℕ, ◌+◌, ◌<◌}
use Rattle.words.specs.Words.{bit_at}
use Rattle.cpu_state.specs.System.{write_system_of, restored_of}
use Rattle.cpu_state.specs.Exceptions.{in_slot, raised_system}
use Rattle.cpu_state.specs.declared.control.Flow.{Flow}
use Rattle.cpu_state.specs.declared.control.System.{System}

-- "SR's low six bits shift left by two, entering zeros"
pub record Pushed (sr after : ℕ) : Type 0 where
  pub entering : (b : ℕ) → b < 2 → bit_at b after ≡ false
  pub moved : (b : ℕ) → b < 4 → bit_at (2 + b) after ≡ bit_at b sr
  pub kept : (b : ℕ) → bit_at (6 + b) after ≡ bit_at (6 + b) sr

-- "CAUSE gets BD, CE (coprocessor number for CpU, else 0) and the code of 002, keeping bits 9..8"; no other bit is set
pub record Caused (slot : Bool) (code unit cause after : ℕ) : Type 0 where
  pub bd : bit_at 31 after ≡ slot
  pub ce : (b : ℕ) → b < 2 → bit_at (28 + b) after ≡ bit_at b unit
  pub kept : (b : ℕ) → b < 2 → bit_at (8 + b) after ≡ bit_at (8 + b) cause
  pub coded : (b : ℕ) → b < 5 → bit_at (2 + b) after ≡ bit_at b code
  pub others : (b : ℕ) → bit_at b 0xb000_037c ≡ false → bit_at b after ≡ false

pub record Raised (s : System) (f : Flow) (code unit : ℕ) : Type 0 where
  pub sr : Pushed s.sr (raised_system s f code unit).sr
  pub cause : Caused (in_slot f) code unit s.cause (raised_system s f code unit).cause

-- an exception, for every code of five bits and coprocessor of two
abbrev pub RaisedBits : Type 0
RaisedBits = (s : System) (f : Flow) (code unit : ℕ) → code < 32 → unit < 4 → Raised s f code unit

-- "RFE copies SR bits 5..2 to 3..0"
pub record Restored (sr after : ℕ) : Type 0 where
  pub moved : (b : ℕ) → b < 4 → bit_at b after ≡ bit_at (2 + b) sr
  pub kept : (b : ℕ) → bit_at (4 + b) after ≡ bit_at (4 + b) sr

abbrev pub RestoredBits : Type 0
RestoredBits = (s : System) → Restored s.sr (restored_of s).sr

-- "MTC0 writes SR under its mask and CAUSE bits 9..8"
pub record Written (v : ℕ) (s : System) : Type 0 where
  pub sr : (b : ℕ) → bit_at b (write_system_of 12 v s).sr ≡ (bit_at b v && bit_at b 0xf24f_ff3f)
  pub taken : (b : ℕ) → b < 2 → bit_at (8 + b) (write_system_of 13 v s).cause ≡ bit_at (8 + b) v
  pub below : (b : ℕ) → b < 8 → bit_at b (write_system_of 13 v s).cause ≡ bit_at b s.cause
  pub above : (b : ℕ) → bit_at (10 + b) (write_system_of 13 v s).cause ≡ bit_at (10 + b) s.cause

abbrev pub WrittenBits : Type 0
WrittenBits = (v : ℕ) (s : System) → Written v s

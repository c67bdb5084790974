-- The memory that is lent to a run: RAM and the scratch pad.
use Rattle.std.specs.Prelude.{List, ◌≡◌, ℕ, length}
use Rattle.memory.specs.Addresses.{RamOk, pad_length}

pub record Memory : Type 0 where
  pub ram : List ℕ
  pub pad : List ℕ

abbrev pub memory : List ℕ → List ℕ → Memory
memory ram pad = record { ram = ram; pad = pad }

-- lengths that are run
pub record MemoryOk (m : Memory) : Type 0 where
  pub ram : RamOk m.ram
  pub pad : length m.pad ≡ pad_length

-- each part is as long as the other memory's
pub record SameLengths (m n : Memory) : Type 0 where
  pub ram : length m.ram ≡ length n.ram
  pub pad : length m.pad ≡ length n.pad

-- The window over lent memory (01 "The run and its numbers"; 02, Ticket 1): a part of RAM or of the scratch pad itself, empty exactly
-- when the length is 0, a buffer's length is bad, or the range is not wholly in one of them.
use Rattle.std.specs.Prelude.{Bool, true, false, cond, ◌&&◌, List, ◌≡◌, ℕ, ◌+◌, ◌-◌, ◌%◌, ◌<◌, eqb, leb, length, take, drop, Result, Ok, Err}
use Rattle.memory.specs.Addresses.{ram_length, pad_base, pad_length, pad_at, segment_of, physical_of}
use Rattle.memory.specs.Memory.{Memory}
use Rattle.memory.specs.declared.addresses.Place.{Place}
use Rattle.memory.specs.declared.addresses.Place.TheVariants.{Ram, Pad}
use Rattle.memory.specs.declared.addresses.Fault.{Fault}
use Rattle.window.specs.declared.Part.{Part}

abbrev pub part : Bool → ℕ → ℕ → Part
part pad at n = record { pad = pad; at = at; length = n }

abbrev pub nothing : Part
nothing = part false 0 0

-- n bytes from a place on in memory of length len, where so many are left
unfoldable pub part_from : Bool → ℕ → ℕ → ℕ → Part
part_from pad at n len = cond (leb n (len - at)) (part pad at n) nothing

abbrev pub part_at : Result Place Fault → ℕ → ℕ → Part
part_at (Ok (Ram p)) n len = part_from false p.0 n len
part_at (Ok (Pad p)) n len = part_from true (pad_at p) n pad_length
part_at (Err e) n len = nothing

-- lengths of RAM and pad that are run
abbrev pub good_lengths : ℕ → ℕ → Bool
good_lengths ram pad = ram_length ram && eqb pad pad_length

-- where the window of an address and a length lies, in RAM and a pad of these lengths
unfoldable pub part_of : ℕ → ℕ → ℕ → ℕ → Part
part_of a n ram pad = cond (good_lengths ram pad) (part_at (segment_of a ram) n ram) nothing

abbrev pub window_part : Memory → ℕ → ℕ → Part
window_part m a n = part_of a n (length m.ram) (length m.pad)

-- of two things, the one of the memory that a part is in
abbrev pub chosen : {A : Type 0} → Part → A → A → A
chosen p ram pad = cond p.pad pad ram

abbrev pub bytes_in : Part → Memory → List ℕ
bytes_in p m = take p.length (drop p.at (chosen p m.ram m.pad))

-- ---- what is asked of it, byte by byte: addresses go modulo 2^32
abbrev pub AllInRam : ℕ → ℕ → ℕ → Type 0
AllInRam a n ram = (i : ℕ) → i < n → segment_of ((a + i) % 0x1_0000_0000) ram ≡ Ok (Ram (physical_of ((a + i) % 0x1_0000_0000)))

abbrev pub AllInPad : ℕ → ℕ → ℕ → Type 0
AllInPad a n ram = (i : ℕ) → i < n → segment_of ((a + i) % 0x1_0000_0000) ram ≡ Ok (Pad (physical_of ((a + i) % 0x1_0000_0000)))

-- what a part that is not empty tells
pub record NotEmpty (p : Part) (a n ram pad : ℕ) : Type 0 where
  pub some : 0 < n
  pub lengths : good_lengths ram pad ≡ true
  pub in_ram : p.pad ≡ false → AllInRam a n ram
  pub in_pad : p.pad ≡ true → AllInPad a n ram

-- "empty exactly when", both ways and for both memories. Where the length is not 0, both buffers' lengths are good and every byte is in
-- one memory, the part is the whole range there, from its first byte on; and where a part is not empty, all of that holds.
pub record WindowExact (a n ram pad : ℕ) : Type 0 where
  pub in_ram : 0 < n → good_lengths ram pad ≡ true → AllInRam a n ram → part_of a n ram pad ≡ part false (a % 0x2000_0000) n
  pub in_pad : 0 < n → good_lengths ram pad ≡ true → AllInPad a n ram → part_of a n ram pad ≡ part true (a % 0x2000_0000 - pad_base) n
  pub only : 0 < (part_of a n ram pad).length → NotEmpty (part_of a n ram pad) a n ram pad

-- Addresses (01 "Addresses"). A virtual address and a physical one are separate kinds; only the segment translation turns
-- one into the other.
use Rattle.std.specs.Prelude.{Bool, true, cond, ◌&&◌, ◌||◌, List, ◌≡◌, ℕ, ◌+◌, ◌-◌, ◌/◌, ◌%◌, eqb, ltb, leb, length, Option, Some, None, Result, Ok, Err}
use Rattle.memory.specs.declared.addresses.Phys.{Phys}
use Rattle.memory.specs.declared.addresses.Place.{Place}
use Rattle.memory.specs.declared.addresses.Place.TheVariants.{Ram, Pad}
use Rattle.memory.specs.declared.addresses.Fault.{Fault}
use Rattle.memory.specs.declared.addresses.Fault.TheVariants.{Bus, Address}

-- a RAM length that is run: a multiple of 4 in 4..2,097,152
unfoldable pub ram_length : ℕ → Bool
ram_length n = eqb (n % 4) 0 && (leb 4 n && leb n 2097152)

-- the same of lent RAM, as a fact
abbrev pub RamOk : List ℕ → Type 0
RamOk m = ram_length (length m) ≡ true

-- top three bits 000, 100 and 101
unfoldable pub mapped : ℕ → Bool
mapped a = eqb (a / 0x2000_0000) 0 || (eqb (a / 0x2000_0000) 4 || eqb (a / 0x2000_0000) 5)

-- the physical address is the low 29 bits
abbrev pub physical_of : ℕ → Phys
physical_of a = record { 0 = a % 0x2000_0000 }

-- the scratch pad (002; 02, Ticket 1) stands at physical 1F800000h to 1F8003FFh
abbrev pub pad_base : ℕ
pad_base = 0x1f80_0000

abbrev pub pad_length : ℕ
pad_length = 1024

-- top three bits 000 and 100 reach it
abbrev pub pad_mapped : ℕ → Bool
pad_mapped a = eqb (a / 0x2000_0000) 0 || eqb (a / 0x2000_0000) 4

unfoldable pub in_pad : ℕ → Bool
in_pad a = pad_mapped a && (leb pad_base (a % 0x2000_0000) && ltb (a % 0x2000_0000) (pad_base + pad_length))

-- the place in the pad of a physical address of it
abbrev pub pad_at : Phys → ℕ
pad_at p = p.0 - pad_base

-- an address that is not in RAM: in the pad, or a bus error
unfoldable pub beyond_ram : ℕ → Result Place Fault
beyond_ram a = cond (in_pad a) (Ok (Pad (physical_of a))) (Err Bus)

-- in RAM of a length, or beyond it
unfoldable pub segment_of : ℕ → ℕ → Result Place Fault
segment_of a len = cond (mapped a && ltb (a % 0x2000_0000) len) (Ok (Ram (physical_of a))) (beyond_ram a)

-- with KUc = 1 an address with bit 31 set is an address error, and so is one that is not aligned; both before the bus
unfoldable pub place_of : ℕ → ℕ → Bool → ℕ → Result Place Fault
place_of a align user len = cond (eqb (a % align) 0) (cond (user && leb 0x8000_0000 a) (Err Address) (segment_of a len)) (Err Address)

-- an aligned address in segment 000 or 100 and in RAM: without bit 31 it is below RAM's length, which is at most 2^21
unfoldable pub word_in_ram : ℕ → ℕ → Bool
word_in_ram a len = eqb (a % 4) 0 && ltb (a % 0x8000_0000) len

-- where such a word lies; of any other it says nothing
abbrev pub direct_of : ℕ → ℕ → Option Phys
direct_of a len = cond (word_in_ram a len) (Some (physical_of a)) None

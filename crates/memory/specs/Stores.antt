-- What a store makes of memory at the place of an address.
use Rattle.std.specs.Prelude.{List, [], ◌∷◌, ℕ, ◌-◌, ◌*◌, ◌/◌, ◌%◌, set, take, drop, Result, Ok, Err}
use Rattle.std.proofs.lemmas.List.Edits.{sets}
use Rattle.byte_order.specs.Bytes.{set_word}
use Rattle.memory.specs.declared.stores.StoreKind.{StoreKind}
use Rattle.memory.specs.declared.stores.StoreKind.TheVariants as S
use Rattle.memory.specs.Addresses.{pad_at}
use Rattle.memory.specs.Memory.{Memory, memory}
use Rattle.memory.specs.declared.addresses.Place.{Place}
use Rattle.memory.specs.declared.addresses.Place.TheVariants as P
use Rattle.memory.specs.declared.addresses.Fault.{Fault}
use Rattle.memory.specs.declared.addresses.Fault.TheVariants as F

-- by how much an address has to be a multiple; the parts of words have no alignment
abbrev pub store_align : StoreKind → ℕ
store_align S.Byte = 1
store_align S.Half = 2
store_align S.Word = 4
store_align S.Left = 1
store_align S.Right = 1

-- the four bytes of a register, lowest first
abbrev pub bytes4 : ℕ → List ℕ
bytes4 x = x % 256 ∷ x / 256 % 256 ∷ x / 65536 % 256 ∷ x / 16777216 ∷ []

-- SWL stores the top n + 1 bytes from the word's beginning up to the byte, SWR the low 4 - n bytes from the byte to its end
unfoldable pub write_of : StoreKind → List ℕ → ℕ → ℕ → List ℕ
write_of S.Byte m at x = set m at (x % 256)
write_of S.Half m at x = sets m at (take 2 (bytes4 x))
write_of S.Word m at x = set_word m at x
write_of S.Left m at x = sets m (at / 4 * 4) (drop (3 - at % 4) (bytes4 x))
write_of S.Right m at x = sets m at (take (4 - at % 4) (bytes4 x))

-- at the place that an address gives
abbrev pub store_of : Result Place Fault → Result Unit Fault
store_of (Ok q) = Ok tt
store_of (Err e) = Err e

-- a store changes RAM or the pad; one that is refused changes nothing
abbrev pub memory_after : StoreKind → Memory → ℕ → Result Place Fault → Memory
memory_after k m x (Ok (P.Ram p)) = memory (write_of k m.ram p.0 x) m.pad
memory_after k m x (Ok (P.Pad p)) = memory m.ram (write_of k m.pad (pad_at p) x)
memory_after k m x (Err e) = m

-- the same where the pad is not reached
abbrev pub ram_store_of : Result Place Fault → Result Unit Fault
ram_store_of (Ok (P.Ram p)) = Ok tt
ram_store_of (Ok (P.Pad p)) = Err F.Bus
ram_store_of (Err e) = Err e

abbrev pub ram_after : StoreKind → List ℕ → ℕ → Result Place Fault → List ℕ
ram_after k ram x (Ok (P.Ram p)) = write_of k ram p.0 x
ram_after k ram x (Ok (P.Pad p)) = ram
ram_after k ram x (Err e) = ram

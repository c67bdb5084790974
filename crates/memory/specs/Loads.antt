-- What a load makes of memory at the place of an address.
use Rattle.std.specs.Prelude.{List, ℕ, ◌+◌, ◌-◌, ◌*◌, ◌/◌, ◌%◌, ◌^◌, get_or, Result, Ok, Err}
use Rattle.std.specs.Int.{w8, w16}
use Rattle.words.specs.Words.{sign_extend}
use Rattle.byte_order.specs.Bytes.{word_at}
use Rattle.memory.specs.declared.loads.LoadKind.{LoadKind}
use Rattle.memory.specs.declared.loads.LoadKind.TheVariants as L
use Rattle.memory.specs.Addresses.{pad_at}
use Rattle.memory.specs.Memory.{Memory}
use Rattle.memory.specs.declared.addresses.Place.{Place}
use Rattle.memory.specs.declared.addresses.Place.TheVariants as P
use Rattle.memory.specs.declared.addresses.Fault.{Fault}
use Rattle.memory.specs.declared.addresses.Fault.TheVariants as F

-- by how much an address has to be a multiple; the parts of words have no alignment
abbrev pub load_align : LoadKind → ℕ
load_align L.Byte = 1
load_align L.ByteUnsigned = 1
load_align L.Half = 2
load_align L.HalfUnsigned = 2
load_align L.Word = 4
load_align L.Left = 1
load_align L.Right = 1

-- the half whose low byte stands at a place
unfoldable pub half_at : List ℕ → ℕ → ℕ
half_at m at = get_or m at 0 + get_or m (at + 1) 0 * 256

-- LWL and LWR: the word that holds the byte, merged with what the register holds; n is the byte's place in the word
unfoldable pub left_of : ℕ → ℕ → ℕ → ℕ
left_of word old n = word * 2 ^ (24 - 8 * n) % 2 ^ 32 + old % 2 ^ (24 - 8 * n)

unfoldable pub right_of : ℕ → ℕ → ℕ → ℕ
right_of word old n = word / 2 ^ (8 * n) + old / 2 ^ (32 - 8 * n) * 2 ^ (32 - 8 * n)

unfoldable pub read_of : LoadKind → List ℕ → ℕ → ℕ → ℕ
read_of L.Byte m at old = sign_extend w8 (get_or m at 0)
read_of L.ByteUnsigned m at old = get_or m at 0
read_of L.Half m at old = sign_extend w16 (half_at m at)
read_of L.HalfUnsigned m at old = half_at m at
read_of L.Word m at old = word_at m at
read_of L.Left m at old = left_of (word_at m (at / 4 * 4)) old (at % 4)
read_of L.Right m at old = right_of (word_at m (at / 4 * 4)) old (at % 4)

-- at the place that an address gives
abbrev pub load_of : LoadKind → Memory → ℕ → Result Place Fault → Result ℕ Fault
load_of k m old (Ok (P.Ram p)) = Ok (read_of k m.ram p.0 old)
load_of k m old (Ok (P.Pad p)) = Ok (read_of k m.pad (pad_at p) old)
load_of k m old (Err e) = Err e

-- the same where the pad is not reached
abbrev pub ram_load_of : LoadKind → List ℕ → ℕ → Result Place Fault → Result ℕ Fault
ram_load_of k ram old (Ok (P.Ram p)) = Ok (read_of k ram p.0 old)
ram_load_of k ram old (Ok (P.Pad p)) = Err F.Bus
ram_load_of k ram old (Err e) = Err e

-- a fetch reads a word of RAM; from the pad it is a bus error
abbrev pub fetch_of : List ℕ → Result Place Fault → Result ℕ Fault
fetch_of ram place = ram_load_of L.Word ram 0 place

-- The file of a machine, as a function: what a save writes.
use Rattle.std.specs.Prelude.{List, [], ◌++◌, ◌≡◌, ℕ, zero, suc, ◌+◌, ◌-◌, ◌*◌, ◌/◌, ◌<◌, ◌≤◌, length, get_or, take, drop}
use Rattle.byte_order.specs.Bytes.{bytes_of}
use Rattle.saved_format.specs.Format.{Bytes, field, Machine}

-- how many full blocks stand before the last block of n bytes of RAM
abbrev pub full_blocks : ℕ → ℕ
full_blocks n = (n - 1) / 32768

-- RAM in k full blocks and a last one
unfoldable pub blocks_of : ℕ → List ℕ → List ℕ
blocks_of zero ram = field 3 ram
blocks_of (suc k) ram = field 3 (take 32768 ram) ++ blocks_of k (drop 32768 ram)

-- n bytes of RAM from k full blocks and a last one
unfoldable pub ram_in : ℕ → ℕ → List ℕ → List ℕ
ram_in zero n l = take n (drop 3 l)
ram_in (suc k) n l = take 32768 (drop 3 l) ++ ram_in k (n - 32768) (drop 32771 l)

-- the file; `RoundTrip` says that it means the machine, and `SameBytes` that no other one does
unfoldable pub file_of : Machine → List ℕ
file_of m =
    field 1 (bytes_of m.control)
    ++ (field 2 (bytes_of m.geometry) ++ (blocks_of (full_blocks (length m.ram)) m.ram ++ (field 4 m.pad ++ field 0 [])))

-- the bytes of the blocks of n bytes of RAM, and of the file
abbrev pub blocks_length : ℕ → ℕ
blocks_length n = n + 3 * (full_blocks n + 1)

abbrev pub file_length : ℕ → ℕ
file_length n = 1468 + blocks_length n

-- a machine of the sizes that a file can hold
pub record Sized (m : Machine) : Type 0 where
  pub control_long : length m.control ≡ 44
  pub control_words : (i : ℕ) → get_or m.control i 0 < 4294967296
  pub geometry_long : length m.geometry ≡ 64
  pub geometry_words : (i : ℕ) → get_or m.geometry i 0 < 4294967296
  pub ram_some : 1 ≤ length m.ram
  pub ram_bytes : Bytes m.ram
  pub pad_long : length m.pad ≡ 1024
  pub pad_bytes : Bytes m.pad

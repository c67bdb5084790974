-- Commands read the same of the words that reads return as of the storage.
use mathlib.Core.List.{List}
use mathlib.Core.Path.{◌≡◌}
use Prim.Native.Nat.{ℕ}
use Rattle.gte_registers.specs.Registers.{kinds, read_of, reads, view}
use Rattle.gte_registers.proofs.Views.{short_low, half_low}
use Rattle.gte_inputs.specs.Inputs.{inputs_of, matrix_of, vector_of, long_of, corner_of}

pub inputs_view : (s : List ℕ) → inputs_of (view s) ≡ inputs_of s
unfolding view reads read_of kinds inputs_of matrix_of vector_of long_of corner_of
inputs_view s = simp (short_low, half_low)

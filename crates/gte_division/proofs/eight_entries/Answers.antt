-- From entry 256 on the rule gives 0.
use mathlib.Core.Path.{◌≡◌, sym}
use Prim.Native.Nat.{ℕ, ◌*◌, ◌≤◌}
use native.Mathlib.Omega.{arith}
use Rattle.tables.specs.Table.{NoneOf, past}
use Rattle.gte_division.specs.Division.{entry_of, packed}
use Rattle.gte_division.proofs.Table.{packed_none}
use Rattle.gte_division.proofs.eight_entries.Goals as goal

none : (k : ℕ) → 32 ≤ k → 0 ≡ packed 8 (k * 8)
none k l = sym (packed_none 8 (k * 8) (omega arith))

pub returns-in_default : goal.returns-in_default
unfolding packed entry_of NoneOf
returns-in_default c = none _ (past 0 32 _ Unit (omega arith) c.in_default.in_default-own.rest)

-- The load that waits (01 "One step").
use Rattle.std.specs.Prelude.{ℕ, ◌%◌, cond, List, ◌==◌, slice_index, slice_set}
use Rattle.cpu_state.specs.System.{none}
use Rattle.cpu_state.specs.declared.control.Pending.{Pending}

-- ---- the load that waits lands at the end of the instruction after it, unless that one loads the register too
abbrev pub landed : Pending → List ℕ → List ℕ
landed p r = slice_set r (p.register % 32) p.value

unfoldable pub landed_unless : Pending → List ℕ → ℕ → List ℕ
landed_unless p r n = cond (p.register % 32 == n % 32) r (landed p r)

-- register 0 stays 0
abbrev pub with_register : List ℕ → ℕ → ℕ → List ℕ
with_register r n v = slice_set (slice_set r (n % 32) v) 0 0

-- into register 0 nothing is left waiting
unfoldable pub pending_of : ℕ → ℕ → Pending
pending_of n v = cond (n % 32 == 0) none (record { register = n % 32; value = v })

-- what LWL and LWR merge with: the value that waits for the register, or the register
unfoldable pub current_of : Pending → List ℕ → ℕ → ℕ
current_of p r n = cond (p.register % 32 == n % 32) p.value (slice_index r (n % 32))

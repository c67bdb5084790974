-- What each effect does to the machine (01 "One step").
use Rattle.std.specs.Prelude.{Bool, false, Result, Ok, Err, List, ℕ, ◌%◌, length}
use Rattle.memory.specs.Addresses.{place_of}
use Rattle.memory.specs.Loads.{load_align, load_of}
use Rattle.memory.specs.Stores.{store_align, store_of, memory_after}
use Rattle.memory.specs.declared.loads.LoadKind.{LoadKind}
use Rattle.memory.specs.declared.loads.LoadKind.TheVariants as K
use Rattle.memory.specs.declared.stores.StoreKind.{StoreKind}
use Rattle.memory.specs.declared.stores.StoreKind.TheVariants as W
use Rattle.memory.specs.declared.addresses.Fault.{Fault}
use Rattle.memory.specs.declared.addresses.Fault.TheVariants.{Bus, Address}
use Rattle.cpu_execute.specs.declared.Effect.{Effect}
use Rattle.cpu_execute.specs.declared.Effect.TheVariants as E
use Rattle.gte_registers.specs.Registers.{reg, write_of}
use Rattle.cpu_state.specs.System.{user_of, read_system_of, write_system_of, restored_of}
use Rattle.cpu_state.specs.State.{State, state}
use Rattle.cpu_effects.specs.Delay.{current_of}
use Rattle.cpu_effects.specs.Effects.{next_step, write_step, product_step, system_step, wait_step}
use Rattle.cpu_effects.specs.Jumps.{jump_step, link_step}
use Rattle.cpu_effects.specs.Traps.{trap_step, fault_step}

-- ---- what the effects that reach memory or COP2 do
abbrev pub geometry_step : List ℕ → State → State
geometry_step g s = next_step (state s.control s.registers g s.memory)

abbrev pub loaded : LoadKind → ℕ → ℕ → State → Result ℕ Fault
loaded k old a s = load_of k s.memory old (place_of a (load_align k) (user_of s.control.system) (length s.memory.ram))

abbrev pub after_load : (ℕ → State) → ℕ → State → Result ℕ Fault → State
after_load f a s (Ok x) = f x
after_load f a s (Err Bus) = trap_step 7 0 s
after_load f a s (Err Address) = fault_step 4 a s

unfoldable pub load_step : LoadKind → ℕ → ℕ → State → State
load_step k n a s = after_load (λ x. wait_step n x s) a s (loaded k (current_of s.control.pending s.registers n) a s)

-- LWC2
unfoldable pub load_geometry_step : ℕ → ℕ → State → State
load_geometry_step n a s = after_load (λ x. geometry_step (write_of s.geometry (n % 64) x) s) a s (loaded K.Word 0 a s)

abbrev pub after_store : ℕ → State → Result (Unit {0}) Fault → State
after_store a s (Ok x) = next_step s
after_store a s (Err Bus) = trap_step 7 0 s
after_store a s (Err Address) = fault_step 5 a s

unfoldable pub store_step : StoreKind → ℕ → ℕ → State → State
store_step k x a s =
    let at = place_of a (store_align k) (user_of s.control.system) (length s.memory.ram) in
    after_store a (state s.control s.registers s.geometry (memory_after k s.memory x at)) (store_of at)

-- ---- a step completes, or stops before an unlisted COP2 command with nothing changed
pub record Tick : Type 0 where
  pub stop : Bool
  pub after : State

abbrev pub tick : Bool → State → Tick
tick b s = record { stop = b; after = s }

-- nothing, where a command is left to the caller
abbrev pub passed_over : ℕ → State → Tick
passed_over word s = tick false s

-- command: what a COP2 command does
unfoldable pub perform_of : (ℕ → State → Tick) → Effect → State → Tick
perform_of command (E.Write n v) s = tick false (write_step n v s)
perform_of command (E.Jump t) s = tick false (jump_step t s)
perform_of command (E.Link n link t) s = tick false (link_step n link t s)
perform_of command (E.Product h) s = tick false (product_step h s)
perform_of command (E.Load k n v) s = tick false (load_step k n v.0 s)
perform_of command (E.Store k x v) s = tick false (store_step k x v.0 s)
perform_of command (E.Trap code) s = tick false (trap_step code 0 s)
perform_of command (E.ReadSystem n k) s = tick false (wait_step n (read_system_of k s.control.system) s)
perform_of command (E.WriteSystem k v) s = tick false (system_step (write_system_of k v s.control.system) s)
perform_of command E.Restore s = tick false (system_step (restored_of s.control.system) s)
perform_of command (E.ReadGeometry n k) s = tick false (wait_step n (reg s.geometry (k % 64)) s)
perform_of command (E.WriteGeometry k v) s = tick false (geometry_step (write_of s.geometry (k % 64) v) s)
perform_of command (E.Command word) s = command word s
perform_of command (E.LoadGeometry k v) s = tick false (load_geometry_step k v.0 s)
perform_of command (E.StoreGeometry k v) s = tick false (store_step W.Word (reg s.geometry (k % 64)) v.0 s)

-- What a step keeps of lent memory: each part keeps its length. And a step that stops changes nothing.
use Rattle.std.specs.Prelude.{Result, Ok, Err}
use Prim.Native.Nat.{ℕ, ◌-◌, ◌*◌, ◌/◌, ◌%◌}
use native.Mathlib.Omega.{arith}
use mathlib.Core.Bool.{Bool, true, false, cond}
use mathlib.Core.List.{List}
use mathlib.Core.Path.{◌≡◌, refl, sym, ap}
use lib.ListN.{length, take, drop, length-set}
use lib.Seq.{length-sets}
use Rattle.byte_order.proofs.Rows.{length_set_words}
use Rattle.memory.specs.Addresses.{place_of, pad_at}
use Rattle.memory.specs.Memory.{Memory, SameLengths}
use Rattle.memory.proofs.Lengths.{same, then_same}
use Rattle.memory.specs.Stores as M
use Rattle.memory.specs.Stores.{store_align, store_of, memory_after}
use Rattle.memory.specs.declared.addresses.Place.{Place}
use Rattle.memory.specs.declared.addresses.Place.TheVariants as P
use Rattle.memory.specs.declared.loads.LoadKind.TheVariants as K
use Rattle.memory.specs.declared.addresses.Fault.{Fault}
use Rattle.memory.specs.declared.addresses.Fault.TheVariants.{Bus, Address}
use Rattle.memory.specs.declared.stores.StoreKind.{StoreKind}
use Rattle.memory.specs.declared.stores.StoreKind.TheVariants as W
use Rattle.cpu_decode.specs.Owners.{number_of, owner_of}
use Rattle.cpu_execute.specs.declared.Effect.{Effect}
use Rattle.cpu_execute.specs.declared.Effect.TheVariants as E
use Rattle.gte_registers.specs.Registers.{reg, write_of}
use Rattle.gte.specs.Commands.{outcome_of, command_of}
use Rattle.gte.specs.declared.Unlisted.{Unlisted}
use Rattle.cpu_state.specs.System.{user_of, usable_of, read_system_of}
use Rattle.cpu_state.specs.State.{State, state}
use Rattle.cpu_effects.specs.Delay.{current_of}
use Rattle.cpu_effects.specs.Effects.{next_step, write_step, product_step, system_step, wait_step}
use Rattle.cpu_effects.specs.Jumps.{jump_step, link_step}
use Rattle.cpu_effects.specs.Traps.{trap_step, fault_step}
use Rattle.step_laws.specs.Kept.{Kept, StepKept}
use Rattle.step_laws.proofs.Formed.{effect_of}
use Rattle.cpu_perform.specs.Perform.{Tick, tick, geometry_step, loaded, after_load, load_step, load_geometry_step, after_store, store_step, perform_of}
use Rattle.cpu_step.specs.Step.{after_command, command_step, issue_of, fetched, after_fetch, step_of}

-- ---- the length of memory
written_long : (k : StoreKind) (m : List ℕ) (at x : ℕ) → length (M.write_of k m at x) ≡ length m
unfolding M.write_of
written_long W.Byte m at x = length-set m at (x % 256)
written_long W.Half m at x = length-sets m at (take 2 (M.bytes4 x))
written_long W.Word m at x = length_set_words m at _
written_long W.Left m at x = length-sets m (at / 4 * 4) (drop (3 - at % 4) (M.bytes4 x))
written_long W.Right m at x = length-sets m at (take (4 - at % 4) (M.bytes4 x))

memory_long : (k : StoreKind) (m : Memory) (x : ℕ) (at : Result Place Fault) → SameLengths (memory_after k m x at) m
memory_long k m x (Ok (P.Ram p)) = record { ram = written_long k m.ram p.0 x; pad = refl }
memory_long k m x (Ok (P.Pad p)) = record { ram = refl; pad = written_long k m.pad (pad_at p) x }
memory_long k m x (Err e) = same m

-- memory after a state is memory before it, in length
abbrev Keeps : State → State → Type 0
Keeps t s = SameLengths t.memory s.memory

next_long : (s : State) → Keeps (next_step s) s
unfolding next_step
next_long s = same _

trap_long : (code unit : ℕ) (s : State) → Keeps (trap_step code unit s) s
unfolding trap_step
trap_long code unit s = same _

fault_long : (code a : ℕ) (s : State) → Keeps (fault_step code a s) s
unfolding fault_step trap_step
fault_long code a s = same _

load_long : (s : State) (f : ℕ → State) → ((x : ℕ) → Keeps (f x) s) → (a : ℕ) (l : Result ℕ Fault) → Keeps (after_load f a s l) s
load_long s f h a (Ok x) = h x
load_long s f h a (Err Bus) = trap_long 7 0 s
load_long s f h a (Err Address) = fault_long 4 a s

store_long : (s : State) (a : ℕ) (o : Result (Unit {0}) Fault) → Keeps (after_store a s o) s
store_long s a (Ok x) = next_long s
store_long s a (Err Bus) = trap_long 7 0 s
store_long s a (Err Address) = fault_long 5 a s

stored_long : (s : State) (k : StoreKind) (x a : ℕ) → Keeps (store_step k x a s) s
unfolding store_step
stored_long s k x a =
    let at = place_of a (store_align k) (user_of s.control.system) (length s.memory.ram) in
    then_same _ _ _ (store_long (state s.control s.registers s.geometry (memory_after k s.memory x at)) a (store_of at)) (memory_long k s.memory x at)

-- ---- an effect stops only where it is an unlisted command, and then changes nothing
abbrev Stays : Tick → State → Type 0
Stays t s = t.stop ≡ true → t.after ≡ s

goes : (t s : State) → Stays (tick false t) s
goes t s h = let z : ◌≡◌ {A = Bool} true false = sym h in absurd (bool_apart z) where
  bool_apart : ◌≡◌ {A = Bool} true false → ⊥
  bool_apart z = let n : ◌≡◌ {A = ℕ} 0 1 = ap (λ (b : Bool). cond b 0 1) z in omega arith

going : (t s : State) → Keeps t s → Kept (tick false t) s
going t s h = record { long = h; stays = goes t s }

wait_long : (n v : ℕ) (s : State) → Keeps (wait_step n v s) s
unfolding wait_step
wait_long n v s = same _

geometry_long : (w : List ℕ) (s : State) → Keeps (geometry_step w s) s
geometry_long w s = next_long (state s.control s.registers w s.memory)

command_kept : (o : Result (Unit {0}) Unlisted) (word : ℕ) (s : State) → Kept (after_command o word s) s
command_kept (Ok x) word s = going _ s (geometry_long (command_of word s.geometry) s)
command_kept (Err e) word s = record { long = same _; stays = λ h. refl }

perform_kept : (e : Effect) (s : State) → Kept (perform_of command_step e s) s
unfolding perform_of write_step jump_step link_step product_step system_step load_step load_geometry_step
perform_kept (E.Write n v) s = going _ s (same _)
perform_kept (E.Jump t) s = going _ s (same _)
perform_kept (E.Link n link t) s = going _ s (same _)
perform_kept (E.Product h) s = going _ s (same _)
perform_kept (E.Load k n v) s = going _ s (load_long s (λ x. wait_step n x s) (λ x. wait_long n x s) v.0 (loaded k (current_of s.control.pending s.registers n) v.0 s))
perform_kept (E.Store k x v) s = going _ s (stored_long s k x v.0)
perform_kept (E.Trap code) s = going _ s (trap_long code 0 s)
perform_kept (E.ReadSystem n k) s = going _ s (wait_long n (read_system_of k s.control.system) s)
perform_kept (E.WriteSystem k v) s = going _ s (same _)
perform_kept E.Restore s = going _ s (same _)
perform_kept (E.ReadGeometry n k) s = going _ s (wait_long n (reg s.geometry (k % 64)) s)
perform_kept (E.WriteGeometry k v) s = going _ s (geometry_long (write_of s.geometry (k % 64) v) s)
perform_kept (E.Command word) s = command_kept (outcome_of word) word s
perform_kept (E.LoadGeometry k v) s =
    going _ s (load_long s (λ x. geometry_step (write_of s.geometry (k % 64) x) s) (λ x. geometry_long (write_of s.geometry (k % 64) x) s) v.0 (loaded K.Word 0 v.0 s))
perform_kept (E.StoreGeometry k v) s = going _ s (stored_long s W.Word (reg s.geometry (k % 64)) v.0)

issue_kept : (word : ℕ) (s : State) → Kept (issue_of word s) s
unfolding issue_of
issue_kept word s = by_test (usable_of (owner_of word) s.control.system) where
  by_test : (b : Bool) → Kept (cond b (perform_of command_step (effect_of word s) s) (tick false (trap_step 11 (number_of (owner_of word)) s))) s
  by_test true = perform_kept (effect_of word s) s
  by_test false = going _ s (trap_long 11 (number_of (owner_of word)) s)

fetch_kept : (s : State) (l : Result ℕ Fault) → Kept (after_fetch s l) s
fetch_kept s (Ok word) = issue_kept word s
fetch_kept s (Err Bus) = going _ s (trap_long 6 0 s)
fetch_kept s (Err Address) = going _ s (fault_long 4 s.control.flow.pc s)

pub step_kept : StepKept
unfolding step_of
step_kept s = fetch_kept s (fetched s)

-- A step keeps the machine formed, whatever it does: one law for each part of the state, and one for each effect.
use Rattle.std.specs.Prelude.{Result, Ok, Err}
use Prim.Native.Nat.{ℕ, zero, suc, ◌+◌, ◌*◌, ◌/◌, ◌%◌, ◌<◌}
use native.Mathlib.Omega.{arith}
use mathlib.Core.Bool.{Bool, true, false, cond}
use mathlib.Core.List.{List, [], ◌∷◌}
use mathlib.Core.Path.{◌≡◌, refl, ◌∙◌}
use lib.Bits.{bit_and}
use lib.Dec.{eqb}
use lib.ListN.{length, get_or, set, length-set}
use borrow.Author.Tests.{eqb-false}
use Rattle.cpu_alu.specs.declared.mul_div.HiLo.{HiLo}
use Rattle.memory.specs.Addresses.{place_of}
use Rattle.memory.specs.Memory.{Memory}
use Rattle.memory.specs.Stores.{store_align, store_of, memory_after}
use Rattle.memory.specs.declared.loads.LoadKind.TheVariants as K
use Rattle.memory.specs.declared.addresses.Fault.{Fault}
use Rattle.memory.specs.declared.addresses.Fault.TheVariants.{Bus, Address}
use Rattle.memory.specs.declared.stores.StoreKind.{StoreKind}
use Rattle.memory.specs.declared.stores.StoreKind.TheVariants as W
use Rattle.cpu_decode.specs.Decode.{decode_of, rs, rt}
use Rattle.cpu_decode.specs.Owners.{number_of, owner_of}
use Rattle.cpu_decode.specs.Fields.{fields_of}
use Rattle.cpu_execute.specs.Execute.{execute_of}
use Rattle.cpu_execute.specs.declared.Effect.{Effect}
use Rattle.cpu_execute.specs.declared.Effect.TheVariants as E
use Rattle.gte_registers.specs.Registers.{reg, write_of, WellFormed}
use Rattle.gte.specs.Commands.{outcome_of, command_of}
use Rattle.gte.specs.declared.Unlisted.{Unlisted}
use Rattle.gte_laws.proofs.Formed.{write_formed, command_formed}
use Rattle.cpu_state.specs.System.{user_of, usable_of, read_system_of, with_sr, with_cause, write_system_of, restored_of, none}
use Rattle.cpu_state.specs.Exceptions.{in_slot, raised_system, raised_of, with_bad_address}
use Rattle.cpu_state.specs.declared.control.Flow.{Flow}
use Rattle.cpu_state.specs.declared.control.Pending.{Pending}
use Rattle.cpu_state.specs.declared.control.System.{System}
use Rattle.cpu_state.specs.State.{State, state}
use Rattle.cpu_effects.specs.Delay.{landed, landed_unless, with_register, pending_of, current_of}
use Rattle.cpu_effects.specs.Effects.{next_step, write_step, product_step, system_step, wait_step}
use Rattle.cpu_effects.specs.Jumps.{jump_step, link_step}
use Rattle.cpu_effects.specs.Traps.{trap_step, fault_step}
use Rattle.cpu_perform.specs.Perform.{tick, geometry_step, loaded, after_load, load_step, load_geometry_step, after_store, store_step, perform_of}
use Rattle.cpu_step.specs.Step.{after_command, command_step, issue_of, fetched, after_fetch, step_of}
use Rattle.step_laws.specs.Formed.{RegistersFormed, PendingFormed, SystemFormed, StateFormed, StepFormed}
use Rattle.step_laws.proofs.Masks.{masked, sr_low, cause_raised, cause_written}

-- ---- registers
set_zero : (r : List ℕ) (k v : ℕ) → get_or r 0 0 ≡ 0 → (k ≡ 0 → v ≡ 0) → get_or (set r k v) 0 0 ≡ 0
set_zero [] k v h f = refl
set_zero (x ∷ r) zero v h f = f refl
set_zero (x ∷ r) (suc k) v h f = h

landed_formed : (p : Pending) (r : List ℕ) → PendingFormed p → RegistersFormed r → RegistersFormed (landed p r)
landed_formed p r w g =
    record {
      long = length-set r (p.register % 32) p.value ∙ g.long;
      zero = set_zero r (p.register % 32) p.value g.zero (λ e. w.value (omega (arith, w.register, e)));
    }

unless_formed : (p : Pending) (r : List ℕ) (n : ℕ) → PendingFormed p → RegistersFormed r → RegistersFormed (landed_unless p r n)
unfolding landed_unless
unless_formed p r n w g = by_test (eqb (p.register % 32) (n % 32)) where
  by_test : (b : Bool) → RegistersFormed (cond b r (landed p r))
  by_test true = g
  by_test false = landed_formed p r w g

zeroed : (l : List ℕ) → get_or (set l 0 0) 0 0 ≡ 0
zeroed [] = refl
zeroed (x ∷ l) = refl

with_formed : (r : List ℕ) (n v : ℕ) → RegistersFormed r → RegistersFormed (with_register r n v)
with_formed r n v g = record { long = length-set (set r (n % 32) v) 0 0 ∙ length-set r (n % 32) v ∙ g.long; zero = zeroed (set r (n % 32) v) }

-- ---- the load that waits
none_formed : PendingFormed none
none_formed = record { register = omega arith; value = λ e. refl }

waiting_formed : (n v : ℕ) → PendingFormed (pending_of n v)
unfolding pending_of
waiting_formed n v = by_test (eqb (n % 32) 0) refl where
  by_test : (b : Bool) → eqb (n % 32) 0 ≡ b → PendingFormed (cond b none (record { register = n % 32; value = v }))
  by_test true e = none_formed
  by_test false e = record { register = omega arith; value = λ z. absurd (eqb-false _ _ e z) }

-- ---- Cop0
written_formed : (n v : ℕ) (y : System) → SystemFormed y → SystemFormed (write_system_of n v y)
unfolding write_system_of
written_formed n v y g = by_sr (eqb n 12) where
  by_cause : (b : Bool) → SystemFormed (cond b (with_cause (y.cause / 0x400 * 0x400 + v / 0x100 % 4 * 0x100 + y.cause % 0x100) y) y)
  by_cause true = record { sr = g.sr; cause = cause_written y.cause (v / 0x100 % 4) (omega arith) g.cause }
  by_cause false = g

  by_sr : (b : Bool) → SystemFormed (cond b (with_sr (bit_and v 0xf24f_ff3f) y) (cond (eqb n 13) (with_cause (y.cause / 0x400 * 0x400 + v / 0x100 % 4 * 0x100 + y.cause % 0x100) y) y))
  by_sr true = record { sr = masked v 0xf24f_ff3f; cause = g.cause }
  by_sr false = by_cause (eqb n 13)

rfe_formed : (y : System) → SystemFormed y → SystemFormed (restored_of y)
unfolding restored_of
rfe_formed y g = record { sr = sr_low y.sr _ g.sr (omega arith); cause = g.cause }

raised_formed : (y : System) (f : Flow) (code unit : ℕ) → code < 32 → unit < 4 → SystemFormed y → SystemFormed (raised_system y f code unit)
unfolding raised_system
raised_formed y f code unit p q g =
    record { sr = sr_low y.sr _ g.sr (omega arith); cause = cause_raised (in_slot f) unit (y.cause / 0x100 % 4) code q (omega arith) p }

-- ---- each effect
module _ (s : State) (g : StateFormed s) where
  abbrev lands : RegistersFormed (landed s.control.pending s.registers)
  lands = landed_formed s.control.pending s.registers g.pending g.registers

  next_formed : StateFormed (next_step s)
  unfolding next_step
  next_formed = record { registers = lands; pending = none_formed; slot = omega arith; system = g.system; geometry = g.geometry }

  write_step_lem : (n v : ℕ) → StateFormed (write_step n v s)
  unfolding write_step
  write_step_lem n v = record { registers = with_formed _ n v lands; pending = none_formed; slot = omega arith; system = g.system; geometry = g.geometry }

  jump_formed : (t : ℕ) → StateFormed (jump_step t s)
  unfolding jump_step
  jump_formed t = record { registers = lands; pending = none_formed; slot = omega arith; system = g.system; geometry = g.geometry }

  link_formed : (n link t : ℕ) → StateFormed (link_step n link t s)
  unfolding link_step
  link_formed n link t = record { registers = with_formed _ n link lands; pending = none_formed; slot = omega arith; system = g.system; geometry = g.geometry }

  system_formed_lem : (y : System) → SystemFormed y → StateFormed (system_step y s)
  unfolding system_step
  system_formed_lem y h = record { registers = lands; pending = none_formed; slot = omega arith; system = h; geometry = g.geometry }

  wait_formed : (n v : ℕ) → StateFormed (wait_step n v s)
  unfolding wait_step
  wait_formed n v =
      record { registers = unless_formed _ _ n g.pending g.registers; pending = waiting_formed n v; slot = omega arith; system = g.system; geometry = g.geometry }

  trap_formed : (code unit : ℕ) → StateFormed (trap_step code unit s)
  unfolding trap_step raised_of
  trap_formed code unit =
      record { registers = lands; pending = none_formed; slot = omega arith; system = raised_formed _ _ _ _ (omega arith) (omega arith) g.system; geometry = g.geometry }

product_formed : (s : State) → StateFormed s → (h : HiLo) → StateFormed (product_step h s)
unfolding product_step
product_formed s g h = record { registers = lands s g; pending = none_formed; slot = omega arith; system = g.system; geometry = g.geometry }

fault_formed : (s : State) → StateFormed s → (code a : ℕ) → StateFormed (fault_step code a s)
unfolding fault_step
fault_formed s g code a =
    trap_formed (state (with_bad_address a s.control) s.registers s.geometry s.memory)
    (record { registers = g.registers; pending = g.pending; slot = g.slot; system = record { sr = g.system.sr; cause = g.system.cause }; geometry = g.geometry })
    code 0

-- other memory, other COP2 words
memory_formed : (s : State) (m : Memory) → StateFormed s → StateFormed (state s.control s.registers s.geometry m)
memory_formed s m g = record { registers = g.registers; pending = g.pending; slot = g.slot; system = g.system; geometry = g.geometry }

geometry_formed_lem : (s : State) (w : List ℕ) → StateFormed s → WellFormed w → StateFormed (geometry_step w s)
geometry_formed_lem s w g h =
    next_formed (state s.control s.registers w s.memory)
    (record { registers = g.registers; pending = g.pending; slot = g.slot; system = g.system; geometry = h })

load_formed : (s : State) → StateFormed s → (f : ℕ → State) → ((x : ℕ) → StateFormed (f x)) → (a : ℕ) (l : Result ℕ Fault) → StateFormed (after_load f a s l)
load_formed s g f h a (Ok x) = h x
load_formed s g f h a (Err Bus) = trap_formed s g 7 0
load_formed s g f h a (Err Address) = fault_formed s g 4 a

store_formed : (s : State) → StateFormed s → (a : ℕ) (o : Result (Unit {0}) Fault) → StateFormed (after_store a s o)
store_formed s g a (Ok x) = next_formed s g
store_formed s g a (Err Bus) = trap_formed s g 7 0
store_formed s g a (Err Address) = fault_formed s g 5 a

stored_formed : (s : State) → StateFormed s → (k : StoreKind) (x a : ℕ) → StateFormed (store_step k x a s)
unfolding store_step
stored_formed s g k x a =
    let at = place_of a (store_align k) (user_of s.control.system) (length s.memory.ram) in
    store_formed (state s.control s.registers s.geometry (memory_after k s.memory x at)) (memory_formed s (memory_after k s.memory x at) g) a (store_of at)

after_formed : (o : Result (Unit {0}) Unlisted) (word : ℕ) (s : State) → StateFormed s → StateFormed (after_command o word s).after
after_formed (Ok x) word s g = geometry_formed_lem s (command_of word s.geometry) g (command_formed word s.geometry g.geometry)
after_formed (Err e) word s g = g

perform_formed : (e : Effect) (s : State) → StateFormed s → StateFormed (perform_of command_step e s).after
unfolding perform_of load_step load_geometry_step
perform_formed (E.Write n v) s g = write_step_lem s g n v
perform_formed (E.Jump t) s g = jump_formed s g t
perform_formed (E.Link n link t) s g = link_formed s g n link t
perform_formed (E.Product h) s g = product_formed s g h
perform_formed (E.Load k n v) s g = load_formed s g (λ x. wait_step n x s) (λ x. wait_formed s g n x) v.0 (loaded k (current_of s.control.pending s.registers n) v.0 s)
perform_formed (E.Store k x v) s g = stored_formed s g k x v.0
perform_formed (E.Trap code) s g = trap_formed s g code 0
perform_formed (E.ReadSystem n k) s g = wait_formed s g n (read_system_of k s.control.system)
perform_formed (E.WriteSystem k v) s g = system_formed_lem s g (write_system_of k v s.control.system) (written_formed k v s.control.system g.system)
perform_formed E.Restore s g = system_formed_lem s g (restored_of s.control.system) (rfe_formed s.control.system g.system)
perform_formed (E.ReadGeometry n k) s g = wait_formed s g n (reg s.geometry (k % 64))
perform_formed (E.WriteGeometry k v) s g = geometry_formed_lem s (write_of s.geometry (k % 64) v) g (write_formed s.geometry (k % 64) v)
perform_formed (E.Command word) s g = after_formed (outcome_of word) word s g
perform_formed (E.LoadGeometry k v) s g =
    load_formed s g (λ x. geometry_step (write_of s.geometry (k % 64) x) s) (λ x. geometry_formed_lem s (write_of s.geometry (k % 64) x) g (write_formed s.geometry (k % 64) x)) v.0 (loaded K.Word 0 v.0 s)
perform_formed (E.StoreGeometry k v) s g = stored_formed s g W.Word (reg s.geometry (k % 64)) v.0

-- the effect of a word that was fetched
abbrev pub effect_of : ℕ → State → Effect
effect_of word s =
    execute_of (decode_of word) (fields_of word) (get_or s.registers (rs word) 0) (get_or s.registers (rt word) 0) s.control.flow.next s.control.product

issue_formed : (word : ℕ) (s : State) → StateFormed s → StateFormed (issue_of word s).after
unfolding issue_of
issue_formed word s g = by_test (usable_of (owner_of word) s.control.system) where
  by_test : (b : Bool) → StateFormed (cond b (perform_of command_step (effect_of word s) s) (tick false (trap_step 11 (number_of (owner_of word)) s))).after
  by_test true = perform_formed (effect_of word s) s g
  by_test false = trap_formed s g 11 (number_of (owner_of word))

fetch_formed : (s : State) → StateFormed s → (l : Result ℕ Fault) → StateFormed (after_fetch s l).after
fetch_formed s g (Ok word) = issue_formed word s g
fetch_formed s g (Err Bus) = trap_formed s g 6 0
fetch_formed s g (Err Address) = fault_formed s g 4 s.control.flow.pc

pub step_formed : StepFormed
unfolding step_of
step_formed s g = fetch_formed s g (fetched s)

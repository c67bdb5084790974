-- What every step keeps: the machine is one that an accepted image describes (01 "The machine image"; demand 1).
use Rattle.std.specs.Prelude.{List, ◌≡◌, ℕ, ◌≤◌, length, get_or}
use Rattle.std.specs.Int.Bits.{bit_and}
use Rattle.gte_registers.specs.Registers.{WellFormed}
use Rattle.cpu_state.specs.declared.control.Pending.{Pending}
use Rattle.cpu_state.specs.declared.control.System.{System}
use Rattle.cpu_state.specs.State.{State}
use Rattle.cpu_step.specs.Step.{step_of}

-- x has only bits of m
abbrev pub Only : ℕ → ℕ → Type 0
Only m x = bit_and x m ≡ x

-- 32 registers, the first of them 0
pub record RegistersFormed (r : List ℕ) : Type 0 where
  pub long : length r ≡ 32
  pub zero : get_or r 0 0 ≡ 0

-- a load waits for a register, or nothing waits
pub record PendingFormed (p : Pending) : Type 0 where
  pub register : p.register ≤ 31
  pub value : p.register ≡ 0 → p.value ≡ 0

pub record SystemFormed (y : System) : Type 0 where
  pub sr : Only 0xf24f_ff3f y.sr
  pub cause : Only 0xb000_037c y.cause

pub record StateFormed (s : State) : Type 0 where
  pub registers : RegistersFormed s.registers
  pub pending : PendingFormed s.control.pending
  pub slot : s.control.flow.slot ≤ 1
  pub system : SystemFormed s.control.system
  pub geometry : WellFormed s.geometry

abbrev pub StepFormed : Type 0
StepFormed = (s : State) → StateFormed s → StateFormed (step_of s).after

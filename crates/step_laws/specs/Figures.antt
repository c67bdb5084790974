-- The starred figures of 01 "Figures from the bench", computed from the definitions.
use Rattle.std.specs.Prelude.{List, [], ◌∷◌, map, ℕ, zero, suc, ◌+◌, ◌*◌, ◌/◌, ◌%◌, get_or, set}
use Rattle.gte_division.specs.Division.{ratio_of}
use Rattle.gte_registers.specs.Registers.{reg, write_of}
use Rattle.gte.specs.Commands.{command_of}
use Rattle.byte_order.specs.Bytes.{bytes_of}
use Rattle.memory.specs.Memory.{memory}
use Rattle.cpu_state.specs.System.{none}
use Rattle.cpu_state.specs.declared.control.Control.{Control}
use Rattle.cpu_state.specs.State.{State, state}
use Rattle.cpu_step.specs.Step.{step_of}

abbrev pub zeros : ℕ → List ℕ
zeros zero = []
zeros (suc n) = 0 ∷ zeros n

infix 20 ◌≔◌
pub data Put : Type 0 where
  ◌≔◌ : ℕ → ℕ → Put

-- 64 words of zeros but for those put
abbrev pub filled : List Put → List ℕ → List ℕ
filled [] w = w
filled ((i ≔ x) ∷ ps) w = filled ps (set w i x)

-- RT has 1000h on its diagonal, TR = 0, H = 200, OFX = 160·65,536, OFY = 120·65,536, DQA = DQB = 0; V0 is given
abbrev pub bench : ℕ → ℕ → ℕ → List ℕ
bench x y z =
    filled ((0 ≔ (x + y * 65536)) ∷ (1 ≔ z) ∷ (32 ≔ 0x1000) ∷ (34 ≔ 0x1000) ∷ (36 ≔ 0x1000) ∷ (56 ≔ (160 * 65536)) ∷ (57 ≔ (120 * 65536)) ∷ (58 ≔ 200) ∷ []) (zeros 64)

-- the quotient, SX, SY and FLAG after RTPS with sf = 1
abbrev pub projected : List ℕ → List ℕ
projected w = ratio_of 200 (reg w 19) ∷ reg w 14 % 65536 ∷ reg w 14 / 65536 ∷ reg w 63 ∷ []

-- a machine at address 0 in kernel mode, with nothing else in its control state
abbrev pub at_start : Control
at_start =
    record {
      flow = record { pc = 0; next = 4; slot = 0 };
      pending = none;
      system = record { sr = 0; cause = 0; epc = 0; badv = 0 };
      product = record { hi = 0; lo = 0 };
    }

-- one step of an instruction of two registers into register 3, with x in register 1 and y in register 2
abbrev pub combined : ℕ → ℕ → ℕ → State
combined word x y = (step_of (state at_start (filled ((1 ≔ x) ∷ (2 ≔ y) ∷ []) (zeros 32)) (zeros 64) (memory (bytes_of (word ∷ [])) []))).after

-- the exception code, and register 3
abbrev pub trapped : State → List ℕ
trapped s = s.control.system.cause / 4 % 32 ∷ get_or s.registers 3 0 ∷ []

pub record Figure : Type 0 where
  pub got : List ℕ
  pub said : List ℕ

-- in the order of 01, the last two ADDU and ADD; -50 is FFCEh as a half, -100 is FFFFFF9Ch as a word
unfoldable pub figures : List Figure
figures =
    record { got = projected (command_of 0x4a180001 (bench 100 0xffce 1000)); said = 13107 ∷ 179 ∷ 110 ∷ 0 ∷ [] }
    ∷ record { got = projected (command_of 0x4a180001 (bench 100 0xffce 100)); said = 0x1ffff ∷ 359 ∷ 20 ∷ 0x8002_0000 ∷ [] }
    ∷ record { got = projected (command_of 0x4a180001 (bench 100 0xffce 101)); said = 129773 ∷ 358 ∷ 20 ∷ 0 ∷ [] }
    ∷ record { got = reg (command_of 0x4b400006 (filled ((12 ≔ 0) ∷ (13 ≔ 10) ∷ (14 ≔ 0xa_0000) ∷ []) (zeros 64))) 24 ∷ []; said = 100 ∷ [] }
    ∷ record { got = reg (command_of 0x4b400006 (filled ((12 ≔ 0) ∷ (13 ≔ 0xa_0000) ∷ (14 ≔ 10) ∷ []) (zeros 64))) 24 ∷ []; said = 0xffff_ff9c ∷ [] }
    ∷ record { got = reg (command_of 0x4b58002d (filled ((17 ≔ 300) ∷ (18 ≔ 300) ∷ (19 ≔ 300) ∷ (61 ≔ 1365) ∷ []) (zeros 64))) 7 ∷ []; said = 299 ∷ [] }
    ∷ (let w = command_of 0x4aa00428 (filled ((9 ≔ 0x7fff) ∷ []) (zeros 64)) in record { got = reg w 25 ∷ reg w 63 ∷ []; said = 0x3fff_0001 ∷ 0x8100_0000 ∷ [] })
    ∷ record { got = reg (command_of 0x4aa00428 (filled ((11 ≔ 0x7fff) ∷ []) (zeros 64))) 63 ∷ []; said = 0x0040_0000 ∷ [] }
    ∷ record { got = map (λ (x : ℕ). reg (write_of (zeros 64) 30 x) 31) (0 ∷ 0xffff_ffff ∷ 1 ∷ 0x8000_0000 ∷ []); said = 32 ∷ 32 ∷ 31 ∷ 1 ∷ [] }
    ∷ record { got = reg (write_of (zeros 64) 63 0xffff_ffff) 63 ∷ []; said = 0xffff_f000 ∷ [] }
    ∷ record { got = trapped (combined 0x0022_1821 0x7fff_ffff 1); said = 0 ∷ 0x8000_0000 ∷ [] }
    ∷ record { got = trapped (combined 0x0022_1820 0x7fff_ffff 1); said = 12 ∷ 0 ∷ [] }
    ∷ []

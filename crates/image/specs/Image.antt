-- The machine image (01 "The machine image"): 108 little-endian words, 432 bytes.
use Rattle.std.specs.Prelude.{List, [], ◌∷◌, ◌++◌, ℕ, get_or}
use Rattle.byte_order.specs.Bytes.{words_at, bytes_of}
use Rattle.memory.specs.Memory.{Memory}
use Rattle.cpu_state.specs.declared.control.Control.{Control}
use Rattle.cpu_state.specs.State.{State, state}

-- ---- the words: 0..31 are the general registers, 32..43 the control state, 44..107 the COP2 registers
abbrev pub image_length : ℕ
image_length = 432

abbrev pub registers_in : List ℕ → List ℕ
registers_in m = words_at m 0 32

abbrev pub control_in : List ℕ → List ℕ
control_in m = words_at m 128 12

abbrev pub geometry_in : List ℕ → List ℕ
geometry_in m = words_at m 176 64

-- 32 HI; 33 LO; 34 PC; 35 next PC; 36 the register that awaits a load; 37 its value; 38 the delay slot; 39 SR; 40 CAUSE; 41 EPC;
-- 42 BADV; 43 zero. The twelve words w are 32..43.
abbrev pub control_of : List ℕ → Control
control_of w =
    record {
      flow = record { pc = get_or w 2 0; next = get_or w 3 0; slot = get_or w 6 0 };
      pending = record { register = get_or w 4 0; value = get_or w 5 0 };
      system = record { sr = get_or w 7 0; cause = get_or w 8 0; epc = get_or w 9 0; badv = get_or w 10 0 };
      product = record { hi = get_or w 0 0; lo = get_or w 1 0 };
    }

abbrev pub control_words : Control → List ℕ
control_words c =
    c.product.hi ∷ c.product.lo ∷ c.flow.pc ∷ c.flow.next ∷ c.pending.register ∷ c.pending.value ∷ c.flow.slot
    ∷ c.system.sr ∷ c.system.cause ∷ c.system.epc ∷ c.system.badv ∷ 0 ∷ []

-- the machine that an image and memory describe, and the image of a machine
abbrev pub machine_of : List ℕ → Memory → State
machine_of i m = state (control_of (control_in i)) (registers_in i) (geometry_in i) m

abbrev pub image_of : State → List ℕ
image_of s = bytes_of (s.registers ++ (control_words s.control ++ s.geometry))

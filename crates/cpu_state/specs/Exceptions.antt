-- Exceptions (01 "One step"; 002's codes).
use Rattle.std.specs.Prelude.{ℕ, ◌+◌, ◌*◌, ◌/◌, ◌%◌, ◌^◌, Bool, cond, ◌==◌}
use Rattle.words.specs.Words.{bit_at}
use Rattle.cpu_alu.specs.Modular.{add, subtract, bit}
use Rattle.cpu_state.specs.declared.control.Flow.{Flow}
use Rattle.cpu_state.specs.declared.control.System.{System}
use Rattle.cpu_state.specs.declared.control.Control.{Control}
use Rattle.cpu_state.specs.System.{none}

-- ---- an exception of a code; unit is the coprocessor's number for CpU, else 0
abbrev pub in_slot : Flow → Bool
in_slot f = f.slot == 1

unfoldable pub raised_system : System → Flow → ℕ → ℕ → System
raised_system s f code unit =
    record {
      sr = s.sr / 64 * 64 + s.sr % 16 * 4;
      cause = bit (in_slot f) * 2 ^ 31 + (unit * 2 ^ 28 + s.cause / 0x100 % 4 * 0x100 + code * 4);
      epc = cond (in_slot f) (subtract f.pc 4) f.pc;
      badv = s.badv;
    }

-- by BEV
unfoldable pub vector_of : System → ℕ
vector_of s = cond (bit_at 22 s.sr) 0xbfc0_0180 0x8000_0080

unfoldable pub raised_of : Control → ℕ → ℕ → Control
raised_of c code unit =
    record {
      flow = record { pc = vector_of c.system; next = add (vector_of c.system) 4; slot = 0 };
      pending = none;
      system = raised_system c.system c.flow code unit;
      product = c.product;
    }

abbrev pub with_bad_address : ℕ → Control → Control
with_bad_address a c =
    record {
      flow = c.flow;
      pending = c.pending;
      system = record { sr = c.system.sr; cause = c.system.cause; epc = c.system.epc; badv = a };
      product = c.product;
    }

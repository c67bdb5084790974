-- Cop0 (01 "One step").
use Rattle.std.specs.Prelude.{ℕ, ◌+◌, ◌*◌, ◌/◌, ◌%◌, Bool, true, cond, [], ◌∷◌, bit_and}
use Rattle.tables.specs.Table.{◌⇒◌, lookup}
use Rattle.words.specs.Words.{bit_at}
use Rattle.cpu_decode.specs.declared.owners.Owner.{Owner}
use Rattle.cpu_decode.specs.declared.owners.Owner.TheVariants.{Processor, Coprocessor0, Coprocessor1, Coprocessor2, Coprocessor3}
use Rattle.cpu_state.specs.declared.control.Pending.{Pending}
use Rattle.cpu_state.specs.declared.control.System.{System}

-- ---- the mode, and which coprocessors it may use: 0 in kernel mode or by CU0, the others by their CU bit
abbrev pub user_of : System → Bool
user_of s = bit_at 1 s.sr

unfoldable pub usable_of : Owner → System → Bool
usable_of Processor s = true
usable_of Coprocessor0 s = cond (user_of s) (bit_at 28 s.sr) true
usable_of Coprocessor1 s = bit_at 29 s.sr
usable_of Coprocessor2 s = bit_at 30 s.sr
usable_of Coprocessor3 s = bit_at 31 s.sr

-- ---- moves: 8, 12, 13 and 14 are read, others read 0; SR is written under its mask and CAUSE in bits 9..8
unfoldable pub read_system_of : ℕ → System → ℕ
read_system_of n s = lookup ((8 ⇒ s.badv) ∷ (12 ⇒ s.sr) ∷ (13 ⇒ s.cause) ∷ (14 ⇒ s.epc) ∷ []) 0 n

abbrev pub with_sr : ℕ → System → System
with_sr v s = record { sr = v; cause = s.cause; epc = s.epc; badv = s.badv }

abbrev pub with_cause : ℕ → System → System
with_cause v s = record { sr = s.sr; cause = v; epc = s.epc; badv = s.badv }

unfoldable pub write_system_of : ℕ → ℕ → System → System
write_system_of n v s =
    lookup
    ((12 ⇒ with_sr (bit_and v 0xf24f_ff3f) s) ∷ (13 ⇒ with_cause (s.cause / 0x400 * 0x400 + v / 0x100 % 4 * 0x100 + s.cause % 0x100) s) ∷ [])
    s
    n

-- RFE copies bits 5..2 of SR to 3..0
unfoldable pub restored_of : System → System
restored_of s = with_sr (s.sr / 16 * 16 + s.sr / 4 % 16) s

-- no load waits
abbrev pub none : Pending
none = record { register = 0; value = 0 }

-- Demand 3 for one command, in whole numbers (01 "GTE arithmetic"): where bit 31 of FLAG is clear after RTPS or RTPT with
-- sf = 1, each vertex lies ahead, and its screen point near the exact quotient.
use Rattle.std.specs.Prelude.{false, true, List, ◌≡◌, ℕ, ◌*◌, ◌≤◌, ℤ, pos, nat_abs, ◌-ℤ◌, ◌*ℤ◌, length, ◌≤ℤ◌}
use Rattle.std.specs.Int.Signed.{shr_z}
use Rattle.std.specs.Int.{w16}
use Rattle.words.specs.Words.{bit_at, low_signed, high_half}
use Rattle.gte_registers.specs.Registers.{reg}
use Rattle.gte_inputs.specs.Inputs.{inputs_of}
use Rattle.gte_perspective.specs.Vertices.{rotated}
use Rattle.gte.specs.Commands.{Command, RTPS, RTPT, command_in, sf_of, command_of}

-- three and a quarter pixels, in 1/65,536 of a pixel
abbrev pub tolerance : ℕ
tolerance = 212992

-- Z·(65,536·S - O) differs from 65,536·H·X by at most `bound`·Z
abbrev pub Close : ℕ → ℕ → ℤ → ℤ → ℤ → ℤ → Type 0
Close bound h z x o s = nat_abs (z *ℤ (pos 65536 *ℤ s -ℤ o) -ℤ pos 65536 *ℤ pos h *ℤ x) ≤ bound * nat_abs z

-- X, Y and Z of vertex k: the exact sums TR·1000h + RT-as-V of the words before, divided by 1000h and rounded down. xy is the
-- word of the screen queue that the vertex went to.
pub record Near (bound : ℕ) (w : List ℕ) (k xy : ℕ) : Type 0 where
  pub ahead : pos 1 ≤ℤ shr_z (rotated (inputs_of w) k).z 4096
  pub across : Close bound (inputs_of w).camera.h (shr_z (rotated (inputs_of w) k).z 4096) (shr_z (rotated (inputs_of w) k).x 4096) (inputs_of w).camera.ofx (low_signed w16 xy)
  pub along : Close bound (inputs_of w).camera.h (shr_z (rotated (inputs_of w) k).z 4096) (shr_z (rotated (inputs_of w) k).y 4096) (inputs_of w).camera.ofy (high_half xy)

-- vertex k goes to register r: V0 of RTPS to 14; V0, V1 and V2 of RTPT to 12, 13 and 14
pub data Goes : Command → ℕ → ℕ → Type 0 where
  single : Goes RTPS 0 14
  first : Goes RTPT 0 12
  second : Goes RTPT 1 13
  third : Goes RTPT 2 14

-- any 64 words before; sf = 1; bit 31 of FLAG clear afterwards; every vertex that the command wrote
abbrev pub Demand3 : Type 0
Demand3 =
    (word : ℕ) (w : List ℕ)
    → length w ≡ 64
    → sf_of word ≡ true
    → bit_at 31 (reg (command_of word w) 63) ≡ false
    → (k r : ℕ)
    → Goes (command_in word) k r
    → Near tolerance w k (reg (command_of word w) r)

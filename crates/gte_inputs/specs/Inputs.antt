-- What commands read of the registers (001 "GTE Registers"). H is unsigned here; every other 16-bit element but SZ is signed.
use Rattle.std.specs.Prelude.{List, [], ◌∷◌, ℕ, zero, suc, ◌+◌, ◌%◌, ℤ}
use Rattle.std.specs.Int.{w16, w32}
use Rattle.std.proofs.Common.{to_z}
use Rattle.words.specs.Words.{low_signed, high_half}
use Rattle.gte_arithmetic.specs.Triples.{Vector, Long}
use Rattle.gte_arithmetic.specs.declared.values.Camera.{Camera}
use Rattle.gte_arithmetic.specs.declared.values.Corner.{Corner}
use Rattle.gte_registers.specs.Registers.{reg}

-- three rows of three in five words: 11, 12 | 13, 21 | 22, 23 | 31, 32 | 33, the low half first
unfoldable pub matrix_of : List ℕ → ℕ → List (List ℤ)
matrix_of w b =
    (low_signed w16 (reg w b) ∷ high_half (reg w b) ∷ low_signed w16 (reg w (b + 1)) ∷ [])
    ∷ (high_half (reg w (b + 1)) ∷ low_signed w16 (reg w (b + 2)) ∷ high_half (reg w (b + 2)) ∷ [])
    ∷ (low_signed w16 (reg w (b + 3)) ∷ high_half (reg w (b + 3)) ∷ low_signed w16 (reg w (b + 4)) ∷ [])
    ∷ []

-- X and Y in one word, Z in the next
unfoldable pub vector_of : List ℕ → ℕ → Vector
vector_of w b = record { x = low_signed w16 (reg w b); y = high_half (reg w b); z = low_signed w16 (reg w (b + 1)) }

-- three signed words
unfoldable pub long_of : List ℕ → ℕ → Long
long_of w b = record { x = to_z w32 (reg w b); y = to_z w32 (reg w (b + 1)); z = to_z w32 (reg w (b + 2)) }

-- a point of the screen queue
unfoldable pub corner_of : List ℕ → ℕ → Corner
corner_of w b = record { x = low_signed w16 (reg w b); y = high_half (reg w b) }

pub record Inputs : Type 0 where
  pub v0 : Vector
  pub v1 : Vector
  pub v2 : Vector
  pub rgbc : ℕ
  pub ir0 : ℤ
  pub ir : Vector
  pub sxy0 : Corner
  pub sxy1 : Corner
  pub sxy2 : Corner
  pub sz0 : ℕ
  pub sz1 : ℕ
  pub sz2 : ℕ
  pub sz3 : ℕ
  pub rgb0 : ℕ
  pub rgb1 : ℕ
  pub rgb2 : ℕ
  pub mac : Long
  pub rt : List (List ℤ)
  pub tr : Long
  pub llm : List (List ℤ)
  pub bk : Long
  pub lcm : List (List ℤ)
  pub fc : Long
  pub camera : Camera
  pub zsf3 : ℤ
  pub zsf4 : ℤ

unfoldable pub inputs_of : List ℕ → Inputs
inputs_of w =
    record {
      v0 = vector_of w 0;
      v1 = vector_of w 2;
      v2 = vector_of w 4;
      rgbc = reg w 6;
      ir0 = low_signed w16 (reg w 8);
      ir = record { x = low_signed w16 (reg w 9); y = low_signed w16 (reg w 10); z = low_signed w16 (reg w 11) };
      sxy0 = corner_of w 12;
      sxy1 = corner_of w 13;
      sxy2 = corner_of w 14;
      sz0 = reg w 16 % 65536;
      sz1 = reg w 17 % 65536;
      sz2 = reg w 18 % 65536;
      sz3 = reg w 19 % 65536;
      rgb0 = reg w 20;
      rgb1 = reg w 21;
      rgb2 = reg w 22;
      mac = long_of w 25;
      rt = matrix_of w 32;
      tr = long_of w 37;
      llm = matrix_of w 40;
      bk = long_of w 45;
      lcm = matrix_of w 48;
      fc = long_of w 53;
      camera = record { h = reg w 58 % 65536; ofx = to_z w32 (reg w 56); ofy = to_z w32 (reg w 57); dqa = low_signed w16 (reg w 59); dqb = to_z w32 (reg w 60) };
      zsf3 = low_signed w16 (reg w 61);
      zsf4 = low_signed w16 (reg w 62);
    }

-- V0, V1 and V2 by number
abbrev pub normal : ℕ → Inputs → Vector
normal zero i = i.v0
normal (suc zero) i = i.v1
normal (suc (suc n)) i = i.v2

-- RGB0, RGB1 and RGB2 by number
abbrev pub queued : ℕ → Inputs → ℕ
queued zero i = i.rgb0
queued (suc zero) i = i.rgb1
queued (suc (suc n)) i = i.rgb2

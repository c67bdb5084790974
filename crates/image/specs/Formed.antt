-- The well-formed image (01 "The machine image").
use Rattle.std.specs.Prelude.{Bool, true, cond, ◌&&◌, List, ℕ, eqb, leb, get_or}
use Rattle.std.specs.Cmp.Lexicographic.{pointwise}
use Rattle.std.specs.Int.Bits.{bit_and}
use Rattle.gte_registers.specs.Registers.{reads}
use Rattle.image.specs.Image.{registers_in, control_in, geometry_in}

-- x has only bits of a mask
abbrev pub only : ℕ → ℕ → Bool
only mask x = eqb (bit_and x mask) x

abbrev pub implies : Bool → Bool → Bool
implies a b = cond a b true

-- word 36 is at most 31, and word 37 is 0 if word 36 is
unfoldable pub pending_formed : ℕ → ℕ → Bool
pending_formed register value = leb register 31 && implies (eqb register 0) (eqb value 0)

-- SR has only bits of F24FFF3Fh, and CAUSE only of B000037Ch
unfoldable pub system_formed : ℕ → ℕ → Bool
system_formed sr cause = only 0xf24f_ff3f sr && only 0xb000_037c cause

-- the twelve words w are 32..43: besides these, word 38 is at most 1 and word 43 is 0
unfoldable pub control_formed : List ℕ → Bool
control_formed w =
    pending_formed (get_or w 4 0) (get_or w 5 0) && (leb (get_or w 6 0) 1 && (eqb (get_or w 11 0) 0 && system_formed (get_or w 7 0) (get_or w 8 0)))

-- every COP2 word equals what a read of that register returns
unfoldable pub geometry_formed : List ℕ → Bool
geometry_formed w = pointwise eqb (reads w) w

-- word 0 is 0, and the rest
unfoldable pub formed : List ℕ → List ℕ → List ℕ → Bool
formed r w g = eqb (get_or r 0 0) 0 && (control_formed w && geometry_formed g)

abbrev pub well_formed : List ℕ → Bool
well_formed m = formed (registers_in m) (control_in m) (geometry_in m)

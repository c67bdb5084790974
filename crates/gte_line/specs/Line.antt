-- One line of a command: three exact values are tested, stored in MAC1..3 and limited to IR1..3.
use Rattle.std.specs.Prelude.{Bool, List, [], ◌∷◌, ℕ, ℤ}
use Rattle.gte_arithmetic.specs.Checks.{or, Check, flags}
use Rattle.gte_arithmetic.specs.Values.{ir_range, limit_flag, mac_of, ir_of, sum_flag, sum_checks, ir_check}
use Rattle.gte_arithmetic.specs.Triples.{Vector, Long, Wide}
use Rattle.gte_arithmetic.specs.declared.values.Line.{Line}
use Rattle.gte_line.specs.declared.Cell.{Cell}

-- one of the three, with the bits that it may set named by the caller
unfoldable pub cell_of : Bool → Bool → ℕ → ℕ → ℕ → ℤ → Cell
cell_of sf lm over under bit x =
    record {
      mac = mac_of sf x;
      ir = ir_of lm (mac_of sf x);
      flag = or (sum_flag over under x) (limit_flag (ir_range lm) (mac_of sf x) bit);
    }

abbrev pub macs_of : Bool → Wide → Long
macs_of sf s = record { x = mac_of sf s.x; y = mac_of sf s.y; z = mac_of sf s.z }

abbrev pub irs_of : Bool → Long → Vector
irs_of lm m = record { x = ir_of lm m.x; y = ir_of lm m.y; z = ir_of lm m.z }

-- MAC1..3 stand on lines a, b and c, IR1..3 on line n
unfoldable pub line_checks_at : ℕ → ℕ → ℕ → ℕ → Bool → Bool → Wide → List Check
line_checks_at a b c n sf lm s =
    sum_checks 1 a s.x (ir_check 1 n lm (mac_of sf s.x)
    ∷ sum_checks 2 b s.y (ir_check 2 n lm (mac_of sf s.y)
    ∷ sum_checks 3 c s.z (ir_check 3 n lm (mac_of sf s.z) ∷ [])))

-- all on one line
abbrev pub line_checks : ℕ → Bool → Bool → Wide → List Check
line_checks n sf lm s = line_checks_at n n n n sf lm s

unfoldable pub line_of : Bool → Bool → Wide → Line
line_of sf lm s = record { mac = macs_of sf s; ir = irs_of lm (macs_of sf s); flag = flags (line_checks 0 sf lm s) }

-- a line with the flags of a list of checks
abbrev pub line_with : List Check → Line → Line
line_with cs l = record { mac = l.mac; ir = l.ir; flag = flags cs }

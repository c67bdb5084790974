-- How the colour commands end (001's formulas as fixed in 01). Line numbers are those of 001's formula of the command.
use Rattle.std.specs.Prelude.{Bool, false, List, ◌++◌, ℕ}
use Rattle.gte_arithmetic.specs.Checks.{Check, flags}
use Rattle.gte_line.specs.Line.{line_checks}
use Rattle.gte_arithmetic.specs.Triples.{Wide}
use Rattle.gte_colour.specs.Shade.{farther, blend_of, shade_of, shade_checks}
use Rattle.gte_arithmetic.specs.declared.values.Shade.{Shade}
use Rattle.gte_inputs.specs.Inputs.{Inputs}

-- a shade with the flags of a list of checks
abbrev pub shade_with : List Check → Shade → Shade
shade_with cs s = record { mac = s.mac; ir = s.ir; rgb = s.rgb; flag = flags cs }

-- MAC stored on line n, the FIFO and IR on line m
abbrev pub plain_end : Bool → Bool → Inputs → Wide → Shade
plain_end sf lm i s = shade_of sf lm i.rgbc s

-- the same after MAC+(FC-MAC)·IR0, whose difference is tested on line l
unfoldable pub cued_checks : ℕ → ℕ → ℕ → Bool → Bool → Inputs → Wide → List Check
cued_checks l n m sf lm i s = line_checks l sf false (farther i.fc s) ++ shade_checks n m sf lm (blend_of sf i.fc i.ir0 s)

abbrev pub cued_end : Bool → Bool → Inputs → Wide → Shade
cued_end sf lm i s = shade_of sf lm i.rgbc (blend_of sf i.fc i.ir0 s)

-- DCPL, INTPL, DPCS and DPCT differ in what they start from
abbrev pub depth_cued_checks : Bool → Bool → Inputs → Wide → List Check
depth_cued_checks sf lm i t = cued_checks 4 5 6 sf lm i t

unfoldable pub depth_cued : Bool → Bool → Inputs → Wide → Shade
depth_cued sf lm i t = shade_with (depth_cued_checks sf lm i t) (cued_end sf lm i t)

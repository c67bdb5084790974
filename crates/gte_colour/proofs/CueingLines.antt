-- The flags of the end of a colour command: the lines that checks name do not matter to them.
use mathlib.Core.Path.{◌≡◌, refl, ap, ◌∙◌}
use mathlib.Core.Bool.{Bool, false}
use mathlib.Core.List.{List}
use Prim.Native.Nat.{ℕ}
use lib.ListN.{get_or}
use Rattle.gte_arithmetic.specs.Checks.{or, flags}
use Rattle.gte_line.specs.Line.{line_checks}
use Rattle.gte_arithmetic.specs.Triples.{Wide}
use Rattle.gte_colour.specs.Shade.{farther, blend_of, shade_checks}
use Rattle.gte_arithmetic.specs.declared.values.Shade.{Shade}
use Rattle.gte_inputs.specs.Inputs.{Inputs, inputs_of}
use Rattle.gte_colour.proofs.LightsLines.{after_line}
use Rattle.gte_colour.specs.Cueing.{cued_checks}

pub shade_flags : (n m : ℕ) (sf lm : Bool) (s : Wide) → flags (shade_checks n m sf lm s) ≡ flags (shade_checks 0 0 sf lm s)
unfolding flags shade_checks
shade_flags n m sf lm s = refl

-- the difference from the far colour, then the end
pub cued_flags : (l n m : ℕ) (sf lm : Bool) (i : Inputs) (s : Wide)
    → flags (cued_checks l n m sf lm i s)
    ≡ or (flags (line_checks 0 sf false (farther i.fc s))) (flags (shade_checks 0 0 sf lm (blend_of sf i.fc i.ir0 s)))
unfolding cued_checks
cued_flags l n m sf lm i s =
    after_line l sf false (farther i.fc s) (shade_checks n m sf lm (blend_of sf i.fc i.ir0 s))
    ∙ ap (or (flags (line_checks 0 sf false (farther i.fc s)))) (shade_flags n m sf lm (blend_of sf i.fc i.ir0 s))

-- the word that holds CODE
pub code : (w : List ℕ) → get_or w 6 0 ≡ (inputs_of w).rgbc
unfolding inputs_of
code w = refl

-- a shade with further flags
abbrev pub with_flag : ℕ → Shade → Shade
with_flag f s = record { mac = s.mac; ir = s.ir; rgb = s.rgb; flag = or f s.flag }

-- The last lines of the colour commands: MAC+(FC-MAC)·IR0, and the colour FIFO with IR1..3.
use Rattle.std.specs.Prelude.{Bool, false, List, [], ◌∷◌, ℕ, ◌+◌, ◌*◌, ◌/◌, ℤ, pos, ◌+ℤ◌, ◌-ℤ◌, ◌*ℤ◌}
use Rattle.gte_arithmetic.specs.Checks.{Check, flags}
use Rattle.gte_arithmetic.specs.Values.{mac_of, colour_of, sum_checks, ir_check, colour_check}
use Rattle.gte_line.specs.Line.{macs_of, irs_of, line_checks}
use Rattle.gte_arithmetic.specs.Triples.{Long, Wide}
use Rattle.gte_arithmetic.specs.declared.values.Shade.{Shade}
use Rattle.gte_arithmetic.specs.declared.values.Checked.{Checked}

-- FC·1000h - MAC, a tested MAC value
unfoldable pub farther : Long → Wide → Wide
farther fc s = record { x = fc.x *ℤ pos 4096 -ℤ s.x; y = fc.y *ℤ pos 4096 -ℤ s.y; z = fc.z *ℤ pos 4096 -ℤ s.z }

-- it is shifted, limited as lm = 0 into IR, times IR0, plus the unshifted MAC
unfoldable pub blend_of : Bool → Long → ℤ → Wide → Wide
blend_of sf fc f s =
    let i = irs_of false (macs_of sf (farther fc s)) in
    record { x = i.x *ℤ f +ℤ s.x; y = i.y *ℤ f +ℤ s.y; z = i.z *ℤ f +ℤ s.z }

unfoldable pub mixed_of : Bool → Long → ℤ → Wide → Checked Wide
mixed_of sf fc f s = record { v = blend_of sf fc f s; flag = flags (line_checks 0 sf false (farther fc s)) }

-- three colours below the CODE byte of the word that has it
unfoldable pub colour_word : ℕ → ℕ → ℕ → ℕ → ℕ
colour_word r g b code = r + g * 256 + b * 65536 + code / 0x100_0000 * 0x100_0000

-- MAC is stored on line n; the colours and IR stand on line m
unfoldable pub shade_checks : ℕ → ℕ → Bool → Bool → Wide → List Check
shade_checks n m sf lm s =
    sum_checks 1 n s.x (ir_check 1 m lm (mac_of sf s.x) ∷ colour_check 1 m (mac_of sf s.x)
    ∷ sum_checks 2 n s.y (ir_check 2 m lm (mac_of sf s.y) ∷ colour_check 2 m (mac_of sf s.y)
    ∷ sum_checks 3 n s.z (ir_check 3 m lm (mac_of sf s.z) ∷ colour_check 3 m (mac_of sf s.z) ∷ [])))

unfoldable pub shade_of : Bool → Bool → ℕ → Wide → Shade
shade_of sf lm code s =
    record {
      mac = macs_of sf s;
      ir = irs_of lm (macs_of sf s);
      rgb = colour_word (colour_of (mac_of sf s.x)) (colour_of (mac_of sf s.y)) (colour_of (mac_of sf s.z)) code;
      flag = flags (shade_checks 0 0 sf lm s);
    }

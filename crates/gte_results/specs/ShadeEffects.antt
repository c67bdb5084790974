-- What colour commands write, and nothing else.
use Rattle.std.specs.Prelude.{List, ℕ, set}
use Rattle.gte_arithmetic.specs.Checks.{or}
use Rattle.gte_arithmetic.specs.declared.values.Shade.{Shade}
use Rattle.gte_registers.specs.Registers.{reg}
use Rattle.gte_results.specs.Effects.{flagged, stored}

-- the colour FIFO: the older entries move one stage down
unfoldable pub pushed_colour : ℕ → List ℕ → List ℕ
pushed_colour c w = set (set (set w 20 (reg w 21)) 21 (reg w 22)) 22 c

-- a colour command, and a triple: the last part's MAC and IR stay, and the flags are ORed
unfoldable pub shade_left : Shade → List ℕ → List ℕ
shade_left s w = flagged s.flag (stored s.mac s.ir (pushed_colour s.rgb w))

unfoldable pub shades_left : Shade → Shade → Shade → List ℕ → List ℕ
shades_left a b c w =
    flagged (or a.flag (or b.flag c.flag))
    (stored c.mac c.ir (pushed_colour c.rgb (pushed_colour b.rgb (pushed_colour a.rgb w))))

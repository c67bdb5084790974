-- DCPL, INTPL, DPCS and DPCT: depth cueing alone (001's formulas as fixed in 01). They differ in what they start from. DPCT is its
-- part at k = 0, 1 and 2.
use Rattle.std.specs.Prelude.{Bool, ℕ}
use Rattle.gte_arithmetic.specs.Triples.{Wide}
use Rattle.gte_sums.specs.Tones.{tones_of, levels_of, raised_of}
use Rattle.gte_arithmetic.specs.declared.values.Shade.{Shade}
use Rattle.gte_inputs.specs.Inputs.{Inputs, queued}
use Rattle.gte_colour.specs.Cueing.{depth_cued}

abbrev pub dcpl_from : Inputs → Wide
dcpl_from i = tones_of i.rgbc i.ir

abbrev pub intpl_from : Inputs → Wide
intpl_from i = raised_of i.ir

abbrev pub dpcs_from : Inputs → Wide
dpcs_from i = levels_of i.rgbc

-- each part of DPCT reads RGB0, into which the pushes of the parts before it have moved the old RGB1 and RGB2
abbrev pub dpct_from : Inputs → ℕ → Wide
dpct_from i k = levels_of (queued k i)

abbrev pub dcpl_of : Bool → Bool → Inputs → Shade
dcpl_of sf lm i = depth_cued sf lm i (dcpl_from i)

abbrev pub intpl_of : Bool → Bool → Inputs → Shade
intpl_of sf lm i = depth_cued sf lm i (intpl_from i)

abbrev pub dpcs_of : Bool → Bool → Inputs → Shade
dpcs_of sf lm i = depth_cued sf lm i (dpcs_from i)

abbrev pub dpct_of : Bool → Bool → Inputs → ℕ → Shade
dpct_of sf lm i k = depth_cued sf lm i (dpct_from i k)

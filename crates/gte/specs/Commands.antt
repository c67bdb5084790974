-- The 22 commands on the 64 words.
use Rattle.std.specs.Prelude.{Bool, true, false, List, [], ◌∷◌, ◌++◌, ℕ, ◌+◌, ◌/◌, ◌%◌, pos, ◌*ℤ◌, Result, Ok, Err}
use Rattle.tables.specs.Table.{Row, ◌⇒◌, lookup}
use Rattle.gte_arithmetic.specs.Checks.{Check}
use Rattle.words.specs.Words.{bit_at}
use Rattle.gte_arithmetic.specs.Values.{mac0_checks}
use Rattle.gte_results.specs.Effects.{line_left}
use Rattle.gte_results.specs.ShadeEffects.{shade_left, shades_left}
use Rattle.gte_results.specs.VertexEffects.{vertex_left, vertices_left}
use Rattle.gte_results.specs.AverageEffects.{winding_left, average_left}
use Rattle.gte_depth.specs.Depth.{winding_of, average_checks, average_of}
use Rattle.gte_colour.specs.Shade.{shade_checks}
use Rattle.gte_registers.specs.Registers.{reads}
use Rattle.gte_inputs.specs.Inputs.{Inputs, inputs_of}
use Rattle.gte_perspective.specs.Vertices.{vertex_at, vertex_checks_at}
use Rattle.gte_matrix.specs.Multiply.{mvmva_of, mvmva_checks}
use Rattle.gte_matrix.specs.SqrOp.{square_of, square_checks, outer_of, outer_checks}
use Rattle.gte_lighting.specs.Normals.{ncs_of, ncs_checks}
use Rattle.gte_lighting.specs.NormalCueing.{ncds_of, ncds_checks}
use Rattle.gte_lighting.specs.NormalColours.{nccs_of, nccs_checks}
use Rattle.gte_shading.specs.Shading.{cc_of, cc_checks, cdp_of, cdp_checks}
use Rattle.gte_shading.specs.Interpolation.{gpf_from, gpf_of, gpl_from, gpl_of}
use Rattle.gte_colour.specs.Cueing.{depth_cued_checks}
use Rattle.gte_shading.specs.DepthCueing.{dcpl_from, dcpl_of, intpl_from, intpl_of, dpcs_from, dpcs_of, dpct_from, dpct_of}
use Rattle.gte.specs.declared.Unlisted.{Unlisted}
use Rattle.gte.specs.declared.Long.{Long}
use Rattle.gte.specs.declared.Long.TheVariants.{Cc, Cdp, Dpct, Ncct}

-- ---- the command word
abbrev pub sf_of : ℕ → Bool
sf_of word = bit_at 19 word

abbrev pub lm_of : ℕ → Bool
lm_of word = bit_at 10 word

abbrev pub mx_of : ℕ → ℕ
mx_of word = word / 131072 % 4

abbrev pub v_of : ℕ → ℕ
v_of word = word / 32768 % 4

abbrev pub cv_of : ℕ → ℕ
cv_of word = word / 8192 % 4

pub data Command : Type 0 where
  RTPS : Command
  NCLIP : Command
  OP : Command
  DPCS : Command
  INTPL : Command
  MVMVA : Command
  NCDS : Command
  CDP : Command
  NCDT : Command
  NCCS : Command
  CC : Command
  NCS : Command
  NCT : Command
  SQR : Command
  DCPL : Command
  DPCT : Command
  AVSZ3 : Command
  AVSZ4 : Command
  RTPT : Command
  GPF : Command
  GPL : Command
  NCCT : Command
  unlisted : Command

-- by the low six bits
unfoldable pub commands : List (Row Command)
commands =
    (0x01 ⇒ RTPS) ∷ (0x06 ⇒ NCLIP) ∷ (0x0c ⇒ OP) ∷ (0x10 ⇒ DPCS) ∷ (0x11 ⇒ INTPL) ∷ (0x12 ⇒ MVMVA)
    ∷ (0x13 ⇒ NCDS) ∷ (0x14 ⇒ CDP) ∷ (0x16 ⇒ NCDT) ∷ (0x1b ⇒ NCCS) ∷ (0x1c ⇒ CC) ∷ (0x1e ⇒ NCS)
    ∷ (0x20 ⇒ NCT) ∷ (0x28 ⇒ SQR) ∷ (0x29 ⇒ DCPL) ∷ (0x2a ⇒ DPCT) ∷ (0x2d ⇒ AVSZ3) ∷ (0x2e ⇒ AVSZ4)
    ∷ (0x30 ⇒ RTPT) ∷ (0x3d ⇒ GPF) ∷ (0x3e ⇒ GPL) ∷ (0x3f ⇒ NCCT) ∷ []

abbrev pub command_in : ℕ → Command
command_in word = lookup commands unlisted (word % 64)

-- ---- each command, from the words before it
unfoldable pub leaves : Command → Bool → Bool → ℕ → Inputs → List ℕ → List ℕ
leaves RTPS sf lm word i w = vertex_left (vertex_at sf i 0) w
leaves NCLIP sf lm word i w = winding_left (winding_of i.sxy0 i.sxy1 i.sxy2) w
leaves OP sf lm word i w = line_left (outer_of sf lm i) w
leaves DPCS sf lm word i w = shade_left (dpcs_of sf lm i) w
leaves INTPL sf lm word i w = shade_left (intpl_of sf lm i) w
leaves MVMVA sf lm word i w = line_left (mvmva_of sf lm (mx_of word) (v_of word) (cv_of word) i) w
leaves NCDS sf lm word i w = shade_left (ncds_of sf lm i 0) w
leaves CDP sf lm word i w = shade_left (cdp_of sf lm i) w
leaves NCDT sf lm word i w = shades_left (ncds_of sf lm i 0) (ncds_of sf lm i 1) (ncds_of sf lm i 2) w
leaves NCCS sf lm word i w = shade_left (nccs_of sf lm i 0) w
leaves CC sf lm word i w = shade_left (cc_of sf lm i) w
leaves NCS sf lm word i w = shade_left (ncs_of sf lm i 0) w
leaves NCT sf lm word i w = shades_left (ncs_of sf lm i 0) (ncs_of sf lm i 1) (ncs_of sf lm i 2) w
leaves SQR sf lm word i w = line_left (square_of sf lm i) w
leaves DCPL sf lm word i w = shade_left (dcpl_of sf lm i) w
leaves DPCT sf lm word i w = shades_left (dpct_of sf lm i 0) (dpct_of sf lm i 1) (dpct_of sf lm i 2) w
leaves AVSZ3 sf lm word i w = average_left (average_of i.zsf3 (i.sz1 + i.sz2 + i.sz3)) w
leaves AVSZ4 sf lm word i w = average_left (average_of i.zsf4 (i.sz0 + i.sz1 + i.sz2 + i.sz3)) w
leaves RTPT sf lm word i w = vertices_left (vertex_at sf i 0) (vertex_at sf i 1) (vertex_at sf i 2) w
leaves GPF sf lm word i w = shade_left (gpf_of sf lm i) w
leaves GPL sf lm word i w = shade_left (gpl_of sf lm i) w
leaves NCCT sf lm word i w = shades_left (nccs_of sf lm i 0) (nccs_of sf lm i 1) (nccs_of sf lm i 2) w
leaves unlisted sf lm word i w = w

-- the commands that share a function in the code
abbrev pub long_of : Long → Command
long_of Cc = CC
long_of Cdp = CDP
long_of Dpct = DPCT
long_of Ncct = NCCT

-- every check that a command makes, by part: a triple has three, in the order in which they are carried out, and every other command one
unfoldable pub parts_of : Command → Bool → Bool → ℕ → Inputs → List (List Check)
parts_of RTPS sf lm word i = vertex_checks_at sf i 0 ∷ []
parts_of NCLIP sf lm word i = mac0_checks 1 (winding_of i.sxy0 i.sxy1 i.sxy2) [] ∷ []
parts_of OP sf lm word i = outer_checks sf lm i ∷ []
parts_of DPCS sf lm word i = depth_cued_checks sf lm i (dpcs_from i) ∷ []
parts_of INTPL sf lm word i = depth_cued_checks sf lm i (intpl_from i) ∷ []
parts_of MVMVA sf lm word i = mvmva_checks sf lm (mx_of word) (v_of word) (cv_of word) i ∷ []
parts_of NCDS sf lm word i = ncds_checks sf lm i 0 ∷ []
parts_of CDP sf lm word i = cdp_checks sf lm i ∷ []
parts_of NCDT sf lm word i = ncds_checks sf lm i 0 ∷ ncds_checks sf lm i 1 ∷ ncds_checks sf lm i 2 ∷ []
parts_of NCCS sf lm word i = nccs_checks sf lm i 0 ∷ []
parts_of CC sf lm word i = cc_checks sf lm i ∷ []
parts_of NCS sf lm word i = ncs_checks sf lm i 0 ∷ []
parts_of NCT sf lm word i = ncs_checks sf lm i 0 ∷ ncs_checks sf lm i 1 ∷ ncs_checks sf lm i 2 ∷ []
parts_of SQR sf lm word i = square_checks sf lm i ∷ []
parts_of DCPL sf lm word i = depth_cued_checks sf lm i (dcpl_from i) ∷ []
parts_of DPCT sf lm word i = depth_cued_checks sf lm i (dpct_from i 0) ∷ depth_cued_checks sf lm i (dpct_from i 1) ∷ depth_cued_checks sf lm i (dpct_from i 2) ∷ []
parts_of AVSZ3 sf lm word i = average_checks 1 (i.zsf3 *ℤ pos (i.sz1 + i.sz2 + i.sz3)) ∷ []
parts_of AVSZ4 sf lm word i = average_checks 2 (i.zsf4 *ℤ pos (i.sz0 + i.sz1 + i.sz2 + i.sz3)) ∷ []
parts_of RTPT sf lm word i = vertex_checks_at sf i 0 ∷ vertex_checks_at sf i 1 ∷ vertex_checks_at sf i 2 ∷ []
parts_of GPF sf lm word i = shade_checks 3 4 sf lm (gpf_from i) ∷ []
parts_of GPL sf lm word i = shade_checks 3 4 sf lm (gpl_from sf i) ∷ []
parts_of NCCT sf lm word i = nccs_checks sf lm i 0 ∷ nccs_checks sf lm i 1 ∷ nccs_checks sf lm i 2 ∷ []
parts_of unlisted sf lm word i = []

-- lists one after another; one alone is itself
abbrev pub joined_from : List Check → List (List Check) → List Check
joined_from p [] = p
joined_from p (q ∷ ps) = p ++ joined_from q ps

abbrev pub joined : List (List Check) → List Check
joined [] = []
joined (p ∷ ps) = joined_from p ps

-- every check that a command makes, part after part
unfoldable pub checks_of : Command → Bool → Bool → ℕ → Inputs → List Check
checks_of c sf lm word i = joined (parts_of c sf lm word i)

abbrev pub listed : Command → Result (Unit {0}) Unlisted
listed RTPS = Ok tt
listed NCLIP = Ok tt
listed OP = Ok tt
listed DPCS = Ok tt
listed INTPL = Ok tt
listed MVMVA = Ok tt
listed NCDS = Ok tt
listed CDP = Ok tt
listed NCDT = Ok tt
listed NCCS = Ok tt
listed CC = Ok tt
listed NCS = Ok tt
listed NCT = Ok tt
listed SQR = Ok tt
listed DCPL = Ok tt
listed DPCT = Ok tt
listed AVSZ3 = Ok tt
listed AVSZ4 = Ok tt
listed RTPT = Ok tt
listed GPF = Ok tt
listed GPL = Ok tt
listed NCCT = Ok tt
listed unlisted = Err (record {})

-- whether there is such a command: carried out, or not listed
unfoldable pub outcome_of : ℕ → Result (Unit {0}) Unlisted
outcome_of word = listed (command_in word)

abbrev pub is_done : Result (Unit {0}) Unlisted → Bool
is_done (Ok x) = true
is_done (Err e) = false

abbrev pub if_done : Result (Unit {0}) Unlisted → List ℕ → List ℕ → List ℕ
if_done (Ok x) a w = a
if_done (Err e) a w = w

-- the words that a command leaves; one that is not listed changes nothing
unfoldable pub command_of : ℕ → List ℕ → List ℕ
command_of word w =
    if_done (outcome_of word) (reads (leaves (command_in word) (sf_of word) (lm_of word) word (inputs_of w) w)) w

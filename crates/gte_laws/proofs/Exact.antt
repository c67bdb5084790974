-- Register 63 after a command is that of the flags of the command's checks; the laws of FLAG say the rest.
use mathlib.Core.Path.{◌≡◌, refl, sym, ap, ◌∙◌, subst}
use mathlib.Core.Bool.{Bool, true, false, cond, ◌&&◌, ◌||◌}
use mathlib.Core.List.{List, [], ◌∷◌, ◌++◌}
use Prim.Native.Nat.{ℕ, ◌/◌, ◌%◌, ◌^◌}
use native.Mathlib.Omega.{arith}
use borrow.Author.Tests.{eqb-true, eqb-false, eq-eqb}
use Rattle.std.specs.Prelude.{Ok}
use lib.Dec.{eqb}
use lib.IntN.{ℤ}
use lib.ListN.{length}
use Rattle.gte_arithmetic.specs.Checks.{Check, fails, or, flags, flag_word, counted, some}
use Rattle.words.specs.Words.{bit_at}
use Rattle.gte_arithmetic.specs.Values.{mac0_checks}
use Rattle.gte_arithmetic.specs.declared.values.Line.{Line}
use Rattle.gte_arithmetic.proofs.Flags.{flags_bit, flags_++, flag_word_bit, clear_31, clear_all, fst, snd}
use Rattle.gte_perspective.specs.Projection.{vertex_of}
use Rattle.gte_depth.specs.Depth.{average_checks, average_of}
use Rattle.gte_arithmetic.specs.declared.values.Vertex.{Vertex}
use Rattle.gte_arithmetic.specs.declared.values.Average.{Average}
use Rattle.gte_arithmetic.specs.declared.values.Shade.{Shade}
use Rattle.gte_registers.specs.Registers.{reg, kinds, read_of, reads, pushed_xy}
use Rattle.gte_registers.proofs.Views.{spelt}
use Rattle.gte_inputs.specs.Inputs.{Inputs, inputs_of}
use Rattle.gte_results.specs.Effects.{stored, flagged, line_left}
use Rattle.gte_results.specs.ShadeEffects.{pushed_colour, shade_left, shades_left}
use Rattle.gte_results.specs.VertexEffects.{pushed_z, pushed_vertex, vertex_kept, vertex_left, vertices_left}
use Rattle.gte_results.specs.AverageEffects.{winding_left, average_left}
use Rattle.gte_lighting.specs.Normals.{ncs_of, ncs_checks}
use Rattle.gte_lighting.specs.NormalCueing.{ncds_of, ncds_checks}
use Rattle.gte_lighting.specs.NormalColours.{nccs_of, nccs_checks}
use Rattle.gte_shading.specs.Shading.{cc_of, cdp_of}
use Rattle.gte_shading.specs.Interpolation.{gpf_of, gpl_of}
use Rattle.gte_colour.specs.Cueing.{depth_cued, depth_cued_checks}
use Rattle.gte_shading.specs.DepthCueing.{dpct_from, dpct_of}
use Rattle.gte_matrix.specs.Multiply.{far_of, multiplied_of, mvmva_of}
use Rattle.gte_matrix.specs.SqrOp.{square_of, outer_of}
use Rattle.gte.specs.Commands.{Command, RTPS, NCLIP, OP, DPCS, INTPL, MVMVA, NCDS, CDP, NCDT, NCCS, CC, NCS, NCT, SQR, DCPL, DPCT, AVSZ3, AVSZ4, RTPT, GPF, GPL, NCCT, unlisted, command_in, sf_of, lm_of, cv_of, leaves, parts_of, checks_of, listed, outcome_of, command_of}
use Rattle.gte_laws.specs.Exact.{checks_at, some_counted, Demand2}

-- ---- register 63 of what each family of commands leaves
module _ (w : List ℕ) (h : length w ≡ 64) where
  abbrev Flagged : (List ℕ → List ℕ) → ℕ → Type 0
  Flagged left f = reg (reads (left w)) 63 ≡ flag_word f

  line_flag : (l : Line) → Flagged (line_left l) l.flag
  unfolding reads read_of kinds line_left stored flagged
  line_flag l = subst (λ (t : List ℕ). reg (reads (line_left l t)) 63 ≡ flag_word l.flag) (sym (spelt w h)) refl

  shade_flag : (s : Shade) → Flagged (shade_left s) s.flag
  unfolding reads read_of kinds shade_left stored flagged pushed_colour
  shade_flag s = subst (λ (t : List ℕ). reg (reads (shade_left s t)) 63 ≡ flag_word s.flag) (sym (spelt w h)) refl

  shades_flag : (a b c : Shade) → Flagged (shades_left a b c) (or a.flag (or b.flag c.flag))
  unfolding reads read_of kinds shades_left stored flagged pushed_colour
  shades_flag a b c = subst (λ (t : List ℕ). reg (reads (shades_left a b c t)) 63 ≡ flag_word (or a.flag (or b.flag c.flag))) (sym (spelt w h)) refl

  vertex_flag : (v : Vertex) → Flagged (vertex_left v) v.flag
  unfolding reads read_of kinds vertex_left vertex_kept pushed_vertex stored flagged pushed_z pushed_xy
  vertex_flag v = subst (λ (t : List ℕ). reg (reads (vertex_left v t)) 63 ≡ flag_word v.flag) (sym (spelt w h)) refl

  vertices_flag : (a b c : Vertex) → Flagged (vertices_left a b c) (or a.flag (or b.flag c.flag))
  unfolding reads read_of kinds vertices_left vertex_kept pushed_vertex stored flagged pushed_z pushed_xy
  vertices_flag a b c = subst (λ (t : List ℕ). reg (reads (vertices_left a b c t)) 63 ≡ flag_word (or a.flag (or b.flag c.flag))) (sym (spelt w h)) refl

  winding_flag : (x : ℤ) → Flagged (winding_left x) (flags (mac0_checks 1 x []))
  unfolding reads read_of kinds winding_left flagged
  winding_flag x = subst (λ (t : List ℕ). reg (reads (winding_left x t)) 63 ≡ flag_word (flags (mac0_checks 1 x []))) (sym (spelt w h)) refl

  average_flag : (a : Average) → Flagged (average_left a) a.flag
  unfolding reads read_of kinds average_left flagged
  average_flag a = subst (λ (t : List ℕ). reg (reads (average_left a t)) 63 ≡ flag_word a.flag) (sym (spelt w h)) refl

-- three lists of checks, part after part
parts : (p q r : List Check) → or (flags p) (or (flags q) (flags r)) ≡ flags (p ++ (q ++ r))
parts p q r = sym (flags_++ p (q ++ r) ∙ ap (or (flags p)) (flags_++ q r))

choice : (t : Bool) (l m : Line) (p q : List Check) → l.flag ≡ flags p → m.flag ≡ flags q → (cond t l m).flag ≡ flags (cond t p q)
choice true l m p q e f = e
choice false l m p q e f = f

-- ---- every command: its flags are those of its checks
module _ (sf lm : Bool) (word : ℕ) (i : Inputs) (w : List ℕ) (h : length w ≡ 64) where
  abbrev Checked : Command → Type 0
  Checked c = reg (reads (leaves c sf lm word i w)) 63 ≡ flag_word (flags (checks_of c sf lm word i))

  mvmva_checked : Checked MVMVA
  unfolding leaves checks_of parts_of mvmva_of multiplied_of far_of
  mvmva_checked = line_flag w h _ ∙ ap flag_word (choice (eqb (cv_of word) 2) _ _ _ _ refl refl)

  shades_checked : (a b c : Shade) (p q r : List Check) → a.flag ≡ flags p → b.flag ≡ flags q → c.flag ≡ flags r → reg (reads (shades_left a b c w)) 63 ≡ flag_word (flags (p ++ (q ++ r)))
  shades_checked a b c p q r d e f = shades_flag w h a b c ∙ ap flag_word (rw (d, e, f) (parts p q r))

  rtpt_checked : Checked RTPT
  unfolding leaves checks_of parts_of vertex_of
  rtpt_checked = vertices_flag w h _ _ _ ∙ ap flag_word (parts _ _ _)

  flags_are : (c : Command) → listed c ≡ Ok tt → Checked c
  unfolding leaves checks_of parts_of vertex_of square_of outer_of ncs_of nccs_of ncds_of cc_of cdp_of depth_cued gpf_of gpl_of average_of average_checks flags
  flags_are RTPS e = vertex_flag w h _
  flags_are NCLIP e = winding_flag w h _
  flags_are OP e = line_flag w h _
  flags_are DPCS e = shade_flag w h _
  flags_are INTPL e = shade_flag w h _
  flags_are MVMVA e = mvmva_checked
  flags_are NCDS e = shade_flag w h _
  flags_are CDP e = shade_flag w h _
  flags_are NCDT e = shades_checked (ncds_of sf lm i 0) (ncds_of sf lm i 1) (ncds_of sf lm i 2) (ncds_checks sf lm i 0) (ncds_checks sf lm i 1) (ncds_checks sf lm i 2) refl refl refl
  flags_are NCCS e = shade_flag w h _
  flags_are CC e = shade_flag w h _
  flags_are NCS e = shade_flag w h _
  flags_are NCT e = shades_checked (ncs_of sf lm i 0) (ncs_of sf lm i 1) (ncs_of sf lm i 2) (ncs_checks sf lm i 0) (ncs_checks sf lm i 1) (ncs_checks sf lm i 2) refl refl refl
  flags_are SQR e = line_flag w h _
  flags_are DCPL e = shade_flag w h _
  flags_are DPCT e = shades_checked (dpct_of sf lm i 0) (dpct_of sf lm i 1) (dpct_of sf lm i 2) (depth_cued_checks sf lm i (dpct_from i 0)) (depth_cued_checks sf lm i (dpct_from i 1)) (depth_cued_checks sf lm i (dpct_from i 2)) refl refl refl
  flags_are AVSZ3 e = average_flag w h _
  flags_are AVSZ4 e = average_flag w h _
  flags_are RTPT e = rtpt_checked
  flags_are GPF e = shade_flag w h _
  flags_are GPL e = shade_flag w h _
  flags_are NCCT e = shades_checked (nccs_of sf lm i 0) (nccs_of sf lm i 1) (nccs_of sf lm i 2) (nccs_checks sf lm i 0) (nccs_checks sf lm i 1) (nccs_checks sf lm i 2) refl refl refl
  flags_are unlisted e = cc

-- register 63 after a listed command
flag_register : (word : ℕ) (w : List ℕ) → length w ≡ 64 → outcome_of word ≡ Ok tt → reg (command_of word w) 63 ≡ flag_word (flags (checks_at word w))
unfolding command_of outcome_of
flag_register word w h e = rw e (flags_are (sf_of word) (lm_of word) word (inputs_of w) w h (command_in word) e)

-- a counted bit, as `clear_31` asks it
odd_bit : (b : ℕ) → bit_at b counted ≡ true → counted / 2 ^ b % 2 ≡ 1
odd_bit b e = eqb-true (counted / 2 ^ b % 2) 1 e

-- ---- bit 31 against the checks that count
apart : {A : Type 0} → ◌≡◌ {A = Bool} true false → A
apart z = let n : ◌≡◌ {A = ℕ} 0 1 = ap (λ (b : Bool). cond b 0 1) z in absurd (omega arith)

none_by : (t : Bool) (c : Check) (b : ℕ) → eqb c.bit b ≡ t → bit_at b counted ≡ true → (bit_at c.bit counted && fails c.test) ≡ false → (t && fails c.test) ≡ false
none_by true c b e m h =
    let counts : bit_at c.bit counted ≡ true = ap (λ (n : ℕ). bit_at n counted) (eqb-true c.bit b e) ∙ m in
    sym (ap (λ (x : Bool). x && fails c.test) counts) ∙ h
none_by false c b e m h = refl

both : (x y : Bool) → x ≡ false → y ≡ false → (x || y) ≡ false
both x y p q = rw (p, q)

-- where none that counts fails, no bit that counts is set
none_set : (cs : List Check) → some_counted cs ≡ false → (b : ℕ) → bit_at b counted ≡ true → some b cs ≡ false
none_set [] h b m = refl
none_set (c ∷ cs) h b m =
    both (eqb c.bit b && fails c.test) (some b cs)
    (none_by (eqb c.bit b) c b refl m (fst (bit_at c.bit counted && fails c.test) (some_counted cs) h))
    (none_set cs (snd (bit_at c.bit counted && fails c.test) (some_counted cs) h) b m)

own : (t : Bool) (c : Check) (cs : List Check) → bit_at c.bit counted ≡ t → ((b : ℕ) → bit_at b counted ≡ true → some b (c ∷ cs) ≡ false) → (t && fails c.test) ≡ false
own true c cs e h =
    let k = fst (eqb c.bit c.bit && fails c.test) (some c.bit cs) (h c.bit e) in
    sym (ap (λ (x : Bool). x && fails c.test) (eq-eqb c.bit c.bit refl)) ∙ k
own false c cs e h = refl

-- and the other way round
none_fails : (cs : List Check) → ((b : ℕ) → bit_at b counted ≡ true → some b cs ≡ false) → some_counted cs ≡ false
none_fails [] h = refl
none_fails (c ∷ cs) h =
    both (bit_at c.bit counted && fails c.test) (some_counted cs) (own (bit_at c.bit counted) c cs refl h)
    (none_fails cs (λ b m. snd (eqb c.bit b && fails c.test) (some b cs) (h b m)))

top_by : (s t : Bool) → (t ≡ false → s ≡ false) → (s ≡ false → t ≡ false) → s ≡ t
top_by true true p q = refl
top_by true false p q = p refl
top_by false true p q = sym (q refl)
top_by false false p q = refl

top_bit : (cs : List Check) → bit_at 31 (flag_word (flags cs)) ≡ some_counted cs
top_bit cs =
    top_by (bit_at 31 (flag_word (flags cs))) (some_counted cs)
    (λ h. clear_all (flags cs) (λ b m. flags_bit b cs ∙ none_set cs h b m))
    (λ h. none_fails cs (λ b m. sym (flags_bit b cs) ∙ clear_31 (flags cs) b h (odd_bit b m)))

swap : (s t : Bool) → (s && t) ≡ (t && s)
swap true true = refl
swap true false = refl
swap false true = refl
swap false false = refl

bit_by : (t : Bool) (b : ℕ) (cs : List Check) → eqb 31 b ≡ t → bit_at b (flag_word (flags cs)) ≡ cond t (some_counted cs) (bit_at b 0x7fff_f000 && some b cs)
bit_by true b cs e = ap (λ (n : ℕ). bit_at n (flag_word (flags cs))) (sym (eqb-true 31 b e)) ∙ top_bit cs
bit_by false b cs e =
    flag_word_bit (flags cs) b (eqb-false 31 b e) ∙ ap (λ (x : Bool). x && bit_at b 0x7fff_f000) (flags_bit b cs) ∙ swap (some b cs) (bit_at b 0x7fff_f000)

pub demand_2 : Demand2
demand_2 word w h e b = ap (bit_at b) (flag_register word w h e) ∙ bit_by (eqb 31 b) b (checks_at word w) refl

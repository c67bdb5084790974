-- Demand 3 for a command: one claim over RTPS and RTPT, all their vertices and every 64 words.
use mathlib.Core.Path.{◌≡◌, refl, sym, ap, ◌∙◌, subst}
use mathlib.Core.Bool.{true, false}
use mathlib.Core.List.{List, ◌++◌}
use Prim.Native.Nat.{ℕ, ◌/◌, ◌%◌, ◌^◌}
use lib.ListN.{length}
use Rattle.gte_arithmetic.specs.Checks.{Check, or, flags, flag_word, counted, some}
use Rattle.words.specs.Words.{bit_at}
use Rattle.gte_arithmetic.proofs.Flags.{flags_bit, flags_++, clear_31, some_++, fst, snd}
use Rattle.gte_perspective.specs.Projection.{vertex_of}
use Rattle.gte_arithmetic.specs.declared.values.Vertex.{Vertex}
use Rattle.gte_registers.specs.Registers.{reg, kinds, read_of, reads, pushed_xy}
use Rattle.gte_inputs.specs.Inputs.{Inputs, inputs_of}
use Rattle.gte_perspective.specs.Vertices.{rotated, vertex_at, vertex_checks_at}
use Rattle.gte.specs.Commands.{Command, RTPS, RTPT, command_in, sf_of, leaves, outcome_of, command_of}
use Rattle.gte_results.specs.Effects.{stored, flagged}
use Rattle.gte_results.specs.VertexEffects.{pushed_z, pushed_vertex, vertex_kept, vertex_left, vertices_left}
use Rattle.gte_laws.specs.Demand.{tolerance, Near, Goes, single, first, second, third, Demand3}
use Rattle.gte_registers.proofs.Views.{spelt}
use Rattle.gte_laws.proofs.Near.{near_part}

-- ---- what stands in the registers afterwards
module _ (w : List ℕ) (h : length w ≡ 64) where
  flag_1 : (v : Vertex) → reg (reads (vertex_left v w)) 63 ≡ flag_word v.flag
  unfolding reads read_of kinds vertex_left vertex_kept pushed_vertex stored flagged pushed_z pushed_xy
  flag_1 v = subst (λ (t : List ℕ). reg (reads (vertex_left v t)) 63 ≡ flag_word v.flag) (sym (spelt w h)) refl

  xy_1 : (v : Vertex) → reg (reads (vertex_left v w)) 14 ≡ v.xy
  unfolding reads read_of kinds vertex_left vertex_kept pushed_vertex stored flagged pushed_z pushed_xy
  xy_1 v = subst (λ (t : List ℕ). reg (reads (vertex_left v t)) 14 ≡ v.xy) (sym (spelt w h)) refl

  module _ (a b c : Vertex) where
    abbrev three : List ℕ → List ℕ
    three t = reads (vertices_left a b c t)

    flag_3 : reg (three w) 63 ≡ flag_word (or a.flag (or b.flag c.flag))
    unfolding reads read_of kinds vertices_left vertex_kept pushed_vertex stored flagged pushed_z pushed_xy
    flag_3 = subst (λ (t : List ℕ). reg (three t) 63 ≡ flag_word (or a.flag (or b.flag c.flag))) (sym (spelt w h)) refl

    xy_a : reg (three w) 12 ≡ a.xy
    unfolding reads read_of kinds vertices_left vertex_kept pushed_vertex stored flagged pushed_z pushed_xy
    xy_a = subst (λ (t : List ℕ). reg (three t) 12 ≡ a.xy) (sym (spelt w h)) refl

    xy_b : reg (three w) 13 ≡ b.xy
    unfolding reads read_of kinds vertices_left vertex_kept pushed_vertex stored flagged pushed_z pushed_xy
    xy_b = subst (λ (t : List ℕ). reg (three t) 13 ≡ b.xy) (sym (spelt w h)) refl

    xy_c : reg (three w) 14 ≡ c.xy
    unfolding reads read_of kinds vertices_left vertex_kept pushed_vertex stored flagged pushed_z pushed_xy
    xy_c = subst (λ (t : List ℕ). reg (three t) 14 ≡ c.xy) (sym (spelt w h)) refl

-- ---- no check of a counted bit fails
none : (cs : List Check) → bit_at 31 (flag_word (flags cs)) ≡ false → (b : ℕ) → counted / 2 ^ b % 2 ≡ 1 → some b cs ≡ false
none cs h b e = sym (flags_bit b cs) ∙ clear_31 (flags cs) b h e

some_l : (b : ℕ) (p q : List Check) → some b (p ++ q) ≡ false → some b p ≡ false
some_l b p q h = fst (some b p) (some b q) (sym (some_++ b p q) ∙ h)

some_r : (b : ℕ) (p q : List Check) → some b (p ++ q) ≡ false → some b q ≡ false
some_r b p q h = snd (some b p) (some b q) (sym (some_++ b p q) ∙ h)

flag_of : (i : Inputs) (k : ℕ) → (vertex_at true i k).flag ≡ flags (vertex_checks_at true i k)
unfolding vertex_of
flag_of i k = refl

-- the three parts' flags are those of one list
flag_all : (i : Inputs) → or (vertex_at true i 0).flag (or (vertex_at true i 1).flag (vertex_at true i 2).flag) ≡ flags (vertex_checks_at true i 0 ++ (vertex_checks_at true i 1 ++ vertex_checks_at true i 2))
flag_all i =
    let p = vertex_checks_at true i 0 in
    let q = vertex_checks_at true i 1 in
    let r = vertex_checks_at true i 2 in
    rw (flag_of i 0, flag_of i 1, flag_of i 2) (sym (flags_++ p (q ++ r) ∙ ap (or (flags p)) (flags_++ q r)))

-- a part's nearness, said of the words
near_in : (w : List ℕ) (k xy : ℕ) → ((b : ℕ) → counted / 2 ^ b % 2 ≡ 1 → some b (vertex_checks_at true (inputs_of w) k) ≡ false) → (vertex_at true (inputs_of w) k).xy ≡ xy → Near tolerance w k xy
near_in w k xy clear e =
    let n = near_part (rotated (inputs_of w) k) (inputs_of w).camera clear in
    subst (λ (t : ℕ). Near tolerance w k t) e (record { ahead = n.ahead; across = n.across; along = n.along })

-- ---- the words that each of the two commands leaves
rtps_leaves : (word : ℕ) (w : List ℕ) → command_in word ≡ RTPS → sf_of word ≡ true → command_of word w ≡ reads (vertex_left (vertex_at true (inputs_of w) 0) w)
unfolding command_of outcome_of leaves
rtps_leaves word w e s = rw (e, s)

rtpt_leaves : (word : ℕ) (w : List ℕ) → command_in word ≡ RTPT → sf_of word ≡ true → command_of word w ≡ reads (vertices_left (vertex_at true (inputs_of w) 0) (vertex_at true (inputs_of w) 1) (vertex_at true (inputs_of w) 2) w)
unfolding command_of outcome_of leaves
rtpt_leaves word w e s = rw (e, s)

module _ (word : ℕ) (w : List ℕ) (h : length w ≡ 64) (s : sf_of word ≡ true) (clear : bit_at 31 (reg (command_of word w) 63) ≡ false) where
  one : command_in word ≡ RTPS → Near tolerance w 0 (reg (command_of word w) 14)
  one e =
      let v = vertex_at true (inputs_of w) 0 in
      let c = rw (rtps_leaves word w e s, flag_1 w h v, flag_of (inputs_of w) 0) at clear in
      near_in w 0 (reg (command_of word w) 14) (none (vertex_checks_at true (inputs_of w) 0) c) (sym (ap (λ (t : List ℕ). reg t 14) (rtps_leaves word w e s) ∙ xy_1 w h v))

  module _ (e : command_in word ≡ RTPT) where
    all : (b : ℕ) → counted / 2 ^ b % 2 ≡ 1 → some b (vertex_checks_at true (inputs_of w) 0 ++ (vertex_checks_at true (inputs_of w) 1 ++ vertex_checks_at true (inputs_of w) 2)) ≡ false
    all =
        none (vertex_checks_at true (inputs_of w) 0 ++ (vertex_checks_at true (inputs_of w) 1 ++ vertex_checks_at true (inputs_of w) 2))
        (rw (rtpt_leaves word w e s, flag_3 w h (vertex_at true (inputs_of w) 0) (vertex_at true (inputs_of w) 1) (vertex_at true (inputs_of w) 2), flag_all (inputs_of w)) at clear)

    after : (r : ℕ) → reg (command_of word w) r ≡ reg (reads (vertices_left (vertex_at true (inputs_of w) 0) (vertex_at true (inputs_of w) 1) (vertex_at true (inputs_of w) 2) w)) r
    after r = ap (λ (t : List ℕ). reg t r) (rtpt_leaves word w e s)

    at_0 : Near tolerance w 0 (reg (command_of word w) 12)
    at_0 =
        let i = inputs_of w in
        near_in w 0 (reg (command_of word w) 12) (λ b f. some_l b (vertex_checks_at true i 0) (vertex_checks_at true i 1 ++ vertex_checks_at true i 2) (all b f))
        (sym (after 12 ∙ xy_a w h (vertex_at true i 0) (vertex_at true i 1) (vertex_at true i 2)))

    at_1 : Near tolerance w 1 (reg (command_of word w) 13)
    at_1 =
        let i = inputs_of w in
        near_in w 1 (reg (command_of word w) 13) (λ b f. some_l b (vertex_checks_at true i 1) (vertex_checks_at true i 2) (some_r b (vertex_checks_at true i 0) (vertex_checks_at true i 1 ++ vertex_checks_at true i 2) (all b f)))
        (sym (after 13 ∙ xy_b w h (vertex_at true i 0) (vertex_at true i 1) (vertex_at true i 2)))

    at_2 : Near tolerance w 2 (reg (command_of word w) 14)
    at_2 =
        let i = inputs_of w in
        near_in w 2 (reg (command_of word w) 14) (λ b f. some_r b (vertex_checks_at true i 1) (vertex_checks_at true i 2) (some_r b (vertex_checks_at true i 0) (vertex_checks_at true i 1 ++ vertex_checks_at true i 2) (all b f)))
        (sym (after 14 ∙ xy_c w h (vertex_at true i 0) (vertex_at true i 1) (vertex_at true i 2)))

  by_vertex : (c : Command) (k r : ℕ) → Goes c k r → command_in word ≡ c → Near tolerance w k (reg (command_of word w) r)
  by_vertex c k r single e = one e
  by_vertex c k r first e = at_0 e
  by_vertex c k r second e = at_1 e
  by_vertex c k r third e = at_2 e

-- one claim over both commands and all their vertices
pub demand_3 : Demand3
demand_3 word w h s clear k r g = by_vertex word w h s clear (command_in word) k r g refl

-- How many words begin a list as a packet, place by place; and that they are one exactly where Packets says so.
use Prim.Native.Nat.{ℕ, zero, suc, ◌+◌, ◌-◌, ◌/◌, ◌≤◌, ◌<◌}
use mathlib.Core.Bool.{Bool, true, false, ◌&&◌}
use mathlib.Core.List.{List, [], ◌∷◌, ◌++◌}
use mathlib.Core.Path.{◌≡◌, refl, sym, ap, subst, ◌∙◌}
use Rattle.std.specs.Prelude.{Option, Some, None}
use Rattle.answer.specs.Codes.{code_of}
use Rattle.answer.specs.declared.Refusal.TheVariants.{UnknownPacket, CutPacket}
use native.Mathlib.Numerals.{add-one}
use native.Mathlib.Omega.{arith}
use lib.Dec.{eqb, leb, ltb, T, eqb→eq}
use lib.ListN.{length, take, drop, get_or, drop_of_length-le, length-append, length-take, length-drop}
use lib.Seq.{drop-cons}
use borrow.Author.Tests.{eq-eqb, ne_eqb, le-leb, lt-leb, lt-ltb, le-ltb, eqb-true, eqb-false, leb-true, ltb-true, ltb-false}
use Rattle.tables.specs.Table.{Row, ◌⇒◌, lookup}
use Rattle.tables.specs.Every.{and_left, and_right, every, at}
use Rattle.draw_list.specs.Packets.{Shape, Words, Polyline, Unknown, packets, shape_of, told_by, line_end, Points, ended, point, Packet, fixed, polyline, NoPacket, Refused, unknown, short}
use Rattle.draw_list.specs.Widths.{points_of, whole_of, line_of, begun_by, width_of, behind, behind_packet, behind_line, refusal_of, fixed_of, fixed_from, fixed_widths}

pub cases : (b : Bool) (P : Type 0) → (b ≡ true → P) → (b ≡ false → P) → P
cases true P y n = y refl
cases false P y n = n refl

shapes : (s : Shape) (P : Type 0) → ((n : ℕ) → s ≡ Words n → P) → (s ≡ Polyline → P) → (s ≡ Unknown → P) → P
shapes (Words n) P w p u = w n refl
shapes Polyline P w p u = p refl
shapes Unknown P w p u = u refl

-- ---- for the search of 55555555h

pub points_hit : (l : List ℕ) (i : ℕ) → i < length l → get_or l i 0 ≡ line_end → points_of (drop i l) ≡ 0
unfolding points_of
points_hit l i h e = rw (drop-cons l i 0 h, eq-eqb _ _ e)

pub points_miss : (l : List ℕ) (i j : ℕ) → j ≡ i + 1 → i < length l → (get_or l i 0 ≡ line_end → ⊥) → points_of (drop i l) ≡ suc (points_of (drop j l))
unfolding points_of
points_miss l i j e h n = rw (e, drop-cons l i 0 h, ne_eqb _ _ n, add-one)

pub points_none : (l : List ℕ) (i : ℕ) → length l ≤ i → points_of (drop i l) ≡ 0
unfolding points_of
points_none l i h = rw (drop_of_length-le l h)

-- ---- the table

-- every packet of the table has a word
unfoldable some : Shape → Bool
some (Words n) = ltb 0 n
some Polyline = true
some Unknown = true

unfoldable each : List (Row Shape) → Bool
each [] = true
each ((k ⇒ s) ∷ rows) = some s && each rows

each_some : (rows : List (Row Shape)) (n : ℕ) → T (each rows) → T (some (lookup rows Unknown n))
unfolding each some
each_some [] n t = tt
each_some ((k ⇒ s) ∷ rows) n t =
    cases (eqb n k) _ (λ e. rw e (and_left (some s) (each rows) t)) (λ e. rw e (each_some rows n (and_right (some s) (each rows) t)))

some_words : (n : ℕ) → T (some (Words n)) → 1 ≤ n
unfolding some
some_words n t = cases (ltb 0 n) _ (λ e. ltb-true _ _ e) (λ e. absurd (rw e at t))

told_some : (top n : ℕ) → shape_of top ≡ Words n → 1 ≤ n
unfolding each some shape_of packets
told_some top n e = some_words n (subst (λ (s : Shape). T (some s)) e (each_some packets top tt))

pub line_byte : shape_of 0x48 ≡ Polyline
unfolding shape_of packets
line_byte = refl

-- 48h is the only polyline
unfoldable line_test : ℕ → Shape → Bool
line_test top (Words n) = true
line_test top Polyline = eqb top 0x48
line_test top Unknown = true

line_tests : T (every (λ top. line_test top (shape_of top)) 0 256)
unfolding line_test shape_of packets
line_tests = tt

line_only : (top : ℕ) → top < 256 → shape_of top ≡ Polyline → top ≡ 0x48
unfolding line_test
line_only top h e = eqb→eq _ _ (subst (λ (s : Shape). T (line_test top s)) e (at (λ top. line_test top (shape_of top)) 0 256 line_tests top (omega arith) (omega arith)))

fixed_from_lem : (i n k : ℕ) → k < n → get_or (fixed_from i n) k 0 ≡ fixed_of (shape_of (i + k))
unfolding fixed_from
fixed_from_lem i zero k h = absurd (omega arith)
fixed_from_lem i (suc n) zero h = ap (λ (m : ℕ). fixed_of (shape_of m)) (omega arith)
fixed_from_lem i (suc n) (suc k) h = fixed_from_lem (suc i) n k (omega arith) ∙ ap (λ (m : ℕ). fixed_of (shape_of m)) (omega arith)

pub fixed_at : (w : List ℕ) (top : ℕ) → w ≡ fixed_widths → top < 256 → get_or w top 0 ≡ fixed_of (shape_of top)
fixed_at w top e h = rw e (fixed_from_lem 0 256 top h ∙ ap (λ (m : ℕ). fixed_of (shape_of m)) (omega arith))

module _ (l : List ℕ) (at top n : ℕ) (t : top ≡ get_or l at 0 / 0x100_0000) (h : top < 256) where
  pub line_refused : top ≡ 0x48 → CutPacket at ≡ refusal_of (told_by (get_or l at 0)) at
  unfolding refusal_of
  line_refused e = rw (← t, e, line_byte)

  module _ (other : top ≡ 0x48 → ⊥) (e : n ≡ fixed_of (shape_of top)) where
    pub unknown_refused : n ≡ 0 → UnknownPacket at ≡ refusal_of (told_by (get_or l at 0)) at
    unfolding fixed_of refusal_of
    unknown_refused z =
        rw (← t)
        (shapes (shape_of top) _ (λ k f. absurd (omega (arith, told_some top k f, rw f at e))) (λ f. absurd (other (line_only top h f))) (λ f. rw f))

    pub known_refused : (n ≡ 0 → ⊥) → CutPacket at ≡ refusal_of (told_by (get_or l at 0)) at
    unfolding fixed_of refusal_of
    known_refused z = rw (← t) (shapes (shape_of top) _ (λ k f. rw f) (λ f. rw f) (λ f. absurd (z (rw f at e))))

-- ---- the place behind a packet

behind_none : (at w : ℕ) → w ≡ 0 → None ≡ behind at w
unfolding behind
behind_none at w e = rw e

behind_some : (at w n : ℕ) → w ≡ n → 1 ≤ n → Some (at + n) ≡ behind at w
unfolding behind
behind_some at w n e h = rw (e, ne_eqb n 0 (omega arith))

-- where a packet begins, there is a place behind it, and else none
pub some_behind : (at w next : ℕ) → Some next ≡ behind at w → (next ≡ at + w) × (1 ≤ w)
unfolding behind
some_behind at w next e =
    cases (eqb w 0) _ (λ z. let s : ◌≡◌ {A = Option ℕ} (Some next) None = rw z at e in absurd (cc s))
    (λ z. let s : Some next ≡ Some (at + w) = rw z at e in let n : next ≡ at + w = cc s in (n, omega (arith, eqb-false w 0 z)))

pub none_behind : (at w : ℕ) → None ≡ behind at w → w ≡ 0
unfolding behind
none_behind at w e = cases (eqb w 0) _ (λ z. eqb-true w 0 z) (λ z. let s : ◌≡◌ {A = Option ℕ} None (Some (at + w)) = rw z at e in absurd (cc s))

-- ---- polylines

few : (n left : ℕ) → n < 2 → line_of n left ≡ 0
unfolding line_of
few n left h = rw (lt-ltb _ _ h)

cut : (n left : ℕ) → 2 ≤ n → left < n + 2 → line_of n left ≡ 0
unfolding line_of whole_of
cut n left h g = rw (le-ltb _ _ h, lt-leb _ _ g)

full : (n left : ℕ) → 2 ≤ n → n + 2 ≤ left → line_of n left ≡ n + 2
unfolding line_of whole_of
full n left h g = rw (le-ltb _ _ h, le-leb _ _ g)

module _ (l : List ℕ) (at : ℕ) where
  pub no_room : length l - at < 4 → None ≡ behind_line l at
  no_room g =
      behind_none at _
      (cases (ltb (points_of (drop (at + 1) l)) 2) _ (λ e. few _ _ (ltb-true _ _ e)) (λ e. let k = ltb-false (points_of (drop (at + 1) l)) 2 e in cut _ _ k (omega arith)))

  module _ (room : 4 ≤ length l - at) where
    pub no_point : get_or l (at + 1) 0 ≡ line_end → None ≡ behind_line l at
    no_point e = behind_none at _ (few _ _ (omega (arith, points_hit l (at + 1) (omega arith) e)))

    module _ (first : get_or l (at + 1) 0 ≡ line_end → ⊥) where
      pub one_point : get_or l (at + 2) 0 ≡ line_end → None ≡ behind_line l at
      one_point e = behind_none at _ (few _ _ (omega (arith, points_miss l (at + 1) (at + 2) (omega arith) (omega arith) first, points_hit l (at + 2) (omega arith) e)))

      module _ (second : get_or l (at + 2) 0 ≡ line_end → ⊥) (stop : ℕ) (s : stop ≡ at + 3 + points_of (drop (at + 3) l)) where
        points : points_of (drop (at + 1) l) ≡ 2 + points_of (drop (at + 3) l)
        points = omega (arith, points_miss l (at + 1) (at + 2) (omega arith) (omega arith) first, points_miss l (at + 2) (at + 3) (omega arith) (omega arith) second)

        pub line_ends : stop < length l → Some (stop + 1) ≡ behind_line l at
        line_ends g =
            let e : stop + 1 ≡ at + (points_of (drop (at + 1) l) + 2) = omega (arith, points) in
            ap Some e ∙ behind_some at _ _ (full _ _ (omega (arith, points)) (omega (arith, points))) (omega arith)

        pub unended : length l ≤ stop → None ≡ behind_line l at
        unended g = behind_none at _ (cut _ _ (omega (arith, points)) (omega (arith, points)))

pub ruleset lines = (no_room, no_point, one_point)

-- ---- what begins at a place, by the top byte of the word there

module _ (l : List ℕ) (at top : ℕ) (h : at < length l) (t : top ≡ get_or l at 0 / 0x100_0000) where
  begun_at : width_of (drop at l) ≡ begun_by (shape_of top) (drop (at + 1) l)
  unfolding width_of
  begun_at = rw (drop-cons l at 0 h, add-one, t)

  left : suc (length (drop (at + 1) l)) ≡ length l - at
  left = omega (arith, length-drop (at + 1) l)

  line_begun : top ≡ 0x48 → width_of (drop at l) ≡ line_of (points_of (drop (at + 1) l)) (length l - at)
  unfolding begun_by
  line_begun line = rw (begun_at, line, line_byte, left)

  pub behind_line_lem : (next : Option ℕ) → top ≡ 0x48 → next ≡ behind_line l at → next ≡ behind_packet l at
  behind_line_lem next line e = rw (line_begun line) e

  module _ (n : ℕ) (small : top < 256) (other : top ≡ 0x48 → ⊥) (e : n ≡ fixed_of (shape_of top)) where
    fixed_begun : width_of (drop at l) ≡ whole_of n (length l - at)
    unfolding fixed_of begun_by whole_of
    fixed_begun =
        shapes (shape_of top) _
        (λ m f. let d : n ≡ m = rw f at e in rw (begun_at, f, left, d))
        (λ f. absurd (other (line_only top small f)))
        (λ f. let d : n ≡ 0 = rw f at e in rw (begun_at, f, d, le-leb 0 (length l - at) (omega arith)))

    pub no_width : n ≡ 0 → None ≡ behind_packet l at
    unfolding whole_of
    no_width z = behind_none at _ (rw (fixed_begun, z, le-leb 0 (length l - at) (omega arith)))

    pub whole_at : (n ≡ 0 → ⊥) → n ≤ length l - at → Some (at + n) ≡ behind_packet l at
    unfolding whole_of
    whole_at z k = behind_some at _ n (rw (fixed_begun, le-leb _ _ k)) (omega arith)

    pub cut_at : length l - at < n → None ≡ behind_packet l at
    unfolding whole_of
    cut_at k = behind_none at _ (rw (fixed_begun, lt-leb _ _ k))

pub ruleset begun = (fixed_at, behind_line_lem, no_width, whole_at, cut_at)

pub ruleset refusals = (fixed_at, line_refused, unknown_refused, known_refused)

-- ---- packets

points_ended : {n : ℕ} {l : List ℕ} → Points n l → (t : List ℕ) → (points_of (l ++ t) ≡ n) × (length l ≡ suc n)
unfolding points_of
points_ended ended t = (refl, refl)
points_ended (point {x} {n} {l} h p) t = let r = points_ended p t in (rw (ne_eqb x line_end h, r.0), rw r.1)

-- a packet at the beginning of a list is what begins it
pub complete : {p : List ℕ} → Packet p → (t : List ℕ) → width_of (p ++ t) ≡ length p
unfolding width_of begun_by line_of whole_of
complete (fixed {c} {l} e) t = rw (e, le-leb (suc (length l)) (suc (length (l ++ t))) (omega (arith, length-append l t)))
complete (polyline {c} {n} {l} e q h) t =
    let r = points_ended q t in
    let k = length-append l t in
    rw (e, r.0, le-ltb n 2 h, le-leb (n + 2) (suc (length (l ++ t))) (omega arith)) (omega arith)

pub sized : {p : List ℕ} → Packet p → 1 ≤ length p
sized (fixed e) = omega arith
sized (polyline e q h) = omega arith

points_taken : (l : List ℕ) → points_of l < length l → Points (points_of l) (take (suc (points_of l)) l)
unfolding points_of
points_taken [] h = absurd (omega arith)
points_taken (x ∷ l) h =
    cases (eqb x line_end) _ (λ e. rw (e, eqb-true x line_end e) ended)
    (λ e. let k : suc (points_of l) < suc (length l) = rw e at h in rw e (point (eqb-false x line_end e) (points_taken l (omega arith))))

whole_is : (n left w : ℕ) → whole_of n left ≡ w → 1 ≤ w → (n ≤ left) × (n ≡ w)
unfolding whole_of
whole_is n left w h o = cases (leb n left) _ (λ e. (leb-true _ _ e, rw e at h)) (λ e. absurd (omega (arith, rw e at h)))

line_is : (n left w : ℕ) → line_of n left ≡ w → 1 ≤ w → (2 ≤ n) × (n + 2 ≤ left) × (n + 2 ≡ w)
unfolding line_of
line_is n left w h o =
    cases (ltb n 2) _ (λ e. absurd (omega (arith, rw e at h)))
    (λ e. let k = whole_is (n + 2) left w (rw e at h) o in (ltb-false _ _ e, k.0, k.1))

-- what begins a list with a word or more is a packet
pub sound : (l : List ℕ) (w : ℕ) → width_of l ≡ w → 1 ≤ w → Packet (take w l) × (w ≤ length l)
unfolding width_of begun_by
sound [] w h o = absurd (omega arith)
sound (c ∷ l) w h o =
    shapes (told_by c) _
    (λ n e. let k = whole_is n (suc (length l)) w (rw e at h) o in
    let f : w ≡ suc (w - 1) = omega arith in
    let g : n ≡ suc (length (take (w - 1) l)) = simp length-take (omega arith) in
    (rw f (fixed (e ∙ ap Words g)), omega arith))
    (λ e. let k = line_is (points_of l) (suc (length l)) w (rw e at h) o in
    let f : w ≡ suc (suc (points_of l)) = omega arith in
    (rw f (polyline e (points_taken l (omega arith)) k.0), omega arith))
    (λ e. absurd (omega (arith, rw e at h)))

-- ---- refusals

no_packet : (l : List ℕ) → width_of l ≡ 0 → NoPacket l
no_packet l h p t i e = omega (arith, complete i t, ap width_of e, sized i)

unknown_width : (c : ℕ) (l : List ℕ) → told_by c ≡ Unknown → width_of (c ∷ l) ≡ 0
unfolding width_of begun_by
unknown_width c l e = rw e

-- where a word is refused, no packet begins
pub refused_none : {l : List ℕ} {code : ℕ} → Refused l code → NoPacket l
refused_none (unknown {c} {l} e) = no_packet (c ∷ l) (unknown_width c l e)
refused_none (short k none) = none

-- where no packet begins, the word is refused
pub none_refused : (c : ℕ) (l : List ℕ) (at : ℕ) → width_of (c ∷ l) ≡ 0 → Refused (c ∷ l) (code_of (refusal_of (told_by c) at))
unfolding refusal_of
none_refused c l at h =
    shapes (told_by c) _
    (λ n e. rw e (short {c = c} {l = l} (λ f. omega (arith, ap (λ s. code_of (refusal_of s at)) (sym e ∙ f))) (no_packet (c ∷ l) h)))
    (λ e. rw e (short {c = c} {l = l} (λ f. omega (arith, ap (λ s. code_of (refusal_of s at)) (sym e ∙ f))) (no_packet (c ∷ l) h)))
    (λ e. rw e (unknown {c = c} {l = l} e))

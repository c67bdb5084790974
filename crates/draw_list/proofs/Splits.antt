-- Packets one after the other: what is read so far, and what it answers in the end.
use Prim.Native.Nat.{ℕ, suc, ◌+◌, ◌≤◌, ◌<◌}
use mathlib.Core.List.{List, [], ◌∷◌, ◌++◌, append_assoc, append-nil}
use mathlib.Core.Path.{◌≡◌, refl, ap, subst, ◌∙◌}
use Rattle.std.specs.Prelude.{Some, None}
use Rattle.answer.specs.Codes.{code_of, number_of}
use Rattle.answer.specs.declared.Refusal.{Refusal}
use native.Mathlib.Omega.{arith}
use lib.ListN.{length, take, drop, get_or, length-append, length-drop, take-append-drop}
use lib.Seq.{drop-cons, length-take-le, take_all, take-add}
use Rattle.draw_list.specs.Packets.{Shape, Words, Polyline, Unknown, told_by, Packet, Split, none, packet, Refused, Answered, accepted, refused}
use Rattle.draw_list.specs.Widths.{width_of, behind_packet, refusal_of}
use Rattle.draw_list.proofs.Widths.{sized, some_behind, none_behind, sound, none_refused}

-- a packet more, behind the others
grown : {ps : List (List ℕ)} {l p : List ℕ} → Split ps l → Packet p → Split (ps ++ (p ∷ [])) (l ++ p)
grown {p = p} none i = subst (λ (x : List ℕ). Split (p ∷ []) x) (append-nil p) (packet i none)
grown {p = p} (packet {p = q} {l = l} {ps = ps} j s) i = rw (append_assoc q l p) (packet j (grown s i))

counts : {ps : List (List ℕ)} {l : List ℕ} → Split ps l → length ps ≤ length l
counts none = omega arith
counts (packet {p} {l} {ps} i s) = omega (arith, counts s, sized i, length-append p l)

-- where the words before a place split, and what begins there is refused
pub refused_from : (l : List ℕ) (at code : ℕ) {ps : List (List ℕ)} → at ≤ length l → Split ps (take at l) → Refused (drop at l) code → Answered l code at
refused_from l at code h s f =
    subst (λ (n : ℕ). Answered l code n) (length-take-le at l h)
    (subst (λ (x : List ℕ). Answered x code (length (take at l))) (take-append-drop at l) (refused s f))

-- ---- the loop of the check: at words are read, and they are so many packets
pub record Read (l : List ℕ) (at count : ℕ) : Type 0 where
  pub within : at ≤ length l
  pub packets : List (List ℕ)
  pub split : Split packets (take at l)
  pub counted : length packets ≡ count

pub start : (l : List ℕ) → Read l 0 0
start l = record { within = omega arith; packets = []; split = none; counted = refl }

module _ (l : List ℕ) (at count : ℕ) (r : Read l at count) where
  pub no_more : count ≤ at
  no_more = omega (arith, counts r.split, length-take-le at l r.within, r.counted)

  pub ends : length l ≤ at → Answered l 0 count
  ends h = subst (λ (n : ℕ). Answered l 0 n) r.counted (accepted (rw (take_all at l h) at r.split))

  module _ (h : at < length l) where
    pub more : (next : ℕ) → Some next ≡ behind_packet l at → Read l next (count + 1) × (at < next)
    more next e =
        let p = some_behind at (width_of (drop at l)) next e in
        let k = sound (drop at l) (width_of (drop at l)) refl p.1 in
        let d = length-drop at l in
        let t : take next l ≡ take at l ++ take (width_of (drop at l)) (drop at l) = ap (λ (n : ℕ). take n l) p.0 ∙ take-add at (width_of (drop at l)) l in (
          record {
            within = omega arith;
            packets = r.packets ++ (take (width_of (drop at l)) (drop at l) ∷ []);
            split = rw t (grown r.split k.0);
            counted = length-append r.packets (take (width_of (drop at l)) (drop at l) ∷ []) ∙ omega (arith, r.counted);
          },
          omega arith,
        )

    begins : drop at l ≡ get_or l at 0 ∷ drop (suc at) l
    begins = drop-cons l at 0 h

    refused_here : width_of (drop at l) ≡ 0 → Refused (drop at l) (code_of (refusal_of (told_by (get_or l at 0)) at))
    refused_here e = rw begins (none_refused (get_or l at 0) (drop (suc at) l) at (rw begins at e))

    numbered : (s : Shape) → number_of (refusal_of s at) ≡ at
    unfolding refusal_of
    numbered (Words n) = refl
    numbered Polyline = refl
    numbered Unknown = refl

    pub ends_at : (e : Refusal) → None ≡ behind_packet l at → e ≡ refusal_of (told_by (get_or l at 0)) at → Answered l (code_of e) (number_of e)
    ends_at e z f = rw (f, numbered (told_by (get_or l at 0))) (refused_from l at _ r.within r.split (refused_here (none_behind at _ z)))

pub ruleset reading = (start, no_more, ends, more, ends_at)

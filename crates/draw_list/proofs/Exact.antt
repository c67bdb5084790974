-- A list has one split at most, and one answer.
use Prim.Native.Nat.{ℕ, zero, suc, ◌≤◌}
use mathlib.Core.List.{List, [], ◌∷◌, ◌++◌, append_assoc, append-nil}
use mathlib.Core.Logic.{◌↔◌}
use mathlib.Core.Path.{◌≡◌, refl, sym, ap, subst, ◌∙◌}
use native.Mathlib.Omega.{arith}
use borrow.Author.Tests.{eqb-true, eqb-false, ltb-true, ltb-false}
use lib.Dec.{eqb, ltb}
use lib.ListN.{length, drop, get_or, length-append, length-drop, take-append-drop}
use lib.Seq.{drop-cons, take_at, drop_at, take-append_seam, drop-append_seam, get_or-append_seam}
use Rattle.answer.specs.Codes.{code_of}
use Rattle.draw_list.specs.Packets.{Unknown, told_by, Packet, Split, none, packet, NoPacket, Refused, unknown, short, Answered, accepted, refused}
use Rattle.draw_list.specs.Widths.{width_of, refusal_of}
use Rattle.draw_list.specs.Exact.{OneSplit, EveryList, OneAnswer, Accepted, RefusedAt, AnsweredExactly}
use Rattle.draw_list.proofs.Widths.{cases, complete, sized, sound, refused_none, none_refused}
use Rattle.draw_list.proofs.Splits.{refused_from}

-- two packets that begin one list are the same, and so is what follows them
same_front : {p q t u : List ℕ} → Packet p → Packet q → p ++ t ≡ q ++ u → (p ≡ q) × (t ≡ u)
same_front {p} {q} {t} {u} i j e =
    let n : length p ≡ length q = sym (complete i t) ∙ ap width_of e ∙ complete j u in
    (sym (rw e at (take_at p t (length q) n)) ∙ take-append_seam q u, sym (rw e at (drop_at p t (length q) n)) ∙ drop-append_seam q u)

same : {ps qs : List (List ℕ)} {l m : List ℕ} → Split ps l → Split qs m → l ≡ m → ps ≡ qs
same none none e = refl
same none (packet {p} {l} {ps} i s) e = absurd (omega (arith, sized i, ap length e, length-append p l))
same (packet {p} {l} {ps} i s) none e = absurd (omega (arith, sized i, ap length e, length-append p l))
same (packet {p} {l} {ps} i s) (packet {p = q} {l = m} {ps = qs} j t) e = let f = same_front i j e in rw (f.0, same s t f.1)

pub one_split : OneSplit
one_split ps qs l s t = same s t refl

-- ---- refusals

refused_some : {l : List ℕ} {code : ℕ} → Refused l code → 1 ≤ length l
refused_some (unknown e) = omega arith
refused_some (short k n) = omega arith

refused_code : {l m : List ℕ} {a b : ℕ} → Refused l a → Refused m b → l ≡ m → a ≡ b
refused_code (unknown e) (unknown f) g = refl
refused_code (short k n) (short j m) g = refl
refused_code (unknown {c} e) (short {c = d} k n) g = let h : c ≡ d = cc in absurd (k (ap told_by (sym h) ∙ e))
refused_code (short {c} k n) (unknown {c = d} e) g = let h : c ≡ d = cc in absurd (k (ap told_by h ∙ e))

-- no packets at the beginning of a list reach past a word that is refused
furthest : {ps qs : List (List ℕ)} {m l rest : List ℕ} {code : ℕ} → Split ps m → Split qs l → Refused rest code → (after : List ℕ) → m ++ after ≡ l ++ rest → length m ≤ length l
furthest none t f after e = omega arith
furthest (packet {p} {l} {ps} i s) none f after e = absurd (refused_none f p (l ++ after) i (sym (append_assoc p l after) ∙ e))
furthest {rest = rest} (packet {p} {l} {ps} i s) (packet {p = q} {l = m} {ps = qs} j t) f after e =
    let g = same_front i j (sym (append_assoc p l after) ∙ e ∙ append_assoc q m rest) in
    omega (arith, furthest s t f after g.1, length-append p l, length-append q m, ap length g.0)

-- ---- answers

-- a list that splits is not refused
not_both : {ps qs : List (List ℕ)} {m l rest : List ℕ} {code : ℕ} → Split ps m → Split qs l → Refused rest code → m ≡ l ++ rest → ⊥
not_both {m = m} {l = l} {rest = rest} s t f e =
    let k = furthest s t f [] (append-nil m ∙ e) in
    absurd (omega (arith, refused_some f, ap length e, length-append l rest))

one : {l m : List ℕ} {a b n k : ℕ} → Answered l a n → Answered m b k → l ≡ m → (a ≡ b) × (n ≡ k)
one (accepted s) (accepted t) e = (refl, ap length (same s t e))
one (accepted s) (refused t g) e = absurd (not_both s t g e)
one (refused s f) (accepted t) e = absurd (not_both t s f (sym e))
one (refused {l} {rest} s f) (refused {l = m} {rest = after} t g) e =
    let n : length l ≡ length m = omega (arith, furthest s t g rest e, furthest t s f after (sym e)) in
    (refused_code f g (sym (rw e at (drop_at l rest (length m) n)) ∙ drop-append_seam m after), n)

pub one_answer : OneAnswer
one_answer l a b m n s t = one s t refl

-- what follows a packet keeps its code
after : {p l : List ℕ} {code n : ℕ} → Packet p → Answered l code n → (k : ℕ) × Answered (p ++ l) code k
after i (accepted s) = (_, accepted (packet i s))
after {p} i (refused {l} {rest} {code} s f) = (_, subst (λ (x : List ℕ). Answered x code (length (p ++ l))) (append_assoc p l rest) (refused (packet i s) f))

-- each packet has a word, so a turn for each word is enough
answer : (turns : ℕ) (l : List ℕ) → length l ≤ turns → (code : ℕ) × (number : ℕ) × Answered l code number
answer zero [] h = (0, 0, accepted none)
answer zero (c ∷ l) h = absurd (omega arith)
answer (suc turns) [] h = (0, 0, accepted none)
answer (suc turns) (c ∷ l) h =
    cases (ltb 0 (width_of (c ∷ l))) _
    (λ e. let o = ltb-true 0 (width_of (c ∷ l)) e in
    let k = sound (c ∷ l) (width_of (c ∷ l)) refl o in
    let d = length-drop (width_of (c ∷ l)) (c ∷ l) in
    let r = answer turns (drop (width_of (c ∷ l)) (c ∷ l)) (omega arith) in
    let q = after k.0 r.2 in
    (r.0, q.0, subst (λ (x : List ℕ). Answered x r.0 q.0) (take-append-drop (width_of (c ∷ l)) (c ∷ l)) q.1))
    (λ e. (code_of (refusal_of (told_by c) 0), 0, refused none (none_refused c l 0 (omega (arith, ltb-false 0 (width_of (c ∷ l)) e)))))

pub every_list : EveryList
every_list l = answer (length l) l (omega arith)

-- ---- what an answer tells

code_some : {l : List ℕ} {code : ℕ} → Refused l code → code ≡ 0 → ⊥
code_some (unknown e) h = omega arith
code_some (short k n) h = omega arith

splits : {l : List ℕ} {code n : ℕ} → Answered l code n → code ≡ 0 → (ps : List (List ℕ)) × Split ps l × (length ps ≡ n)
splits (accepted {ps} s) e = (ps, s, refl)
splits (refused s f) e = absurd (code_some f e)

accepted_exactly : (l : List ℕ) (code n : ℕ) → Answered l code n → Accepted l code n
accepted_exactly l code n a = record { splits = splits a; always = λ ps s. one_answer l code 0 n (length ps) a (accepted s) }

code_byte : {c : ℕ} {l : List ℕ} {code : ℕ} → Refused (c ∷ l) code → (code ≡ 11) ↔ (told_by c ≡ Unknown)
code_byte (unknown e) = ((λ h. e), λ h. refl)
code_byte (short k n) = ((λ h. absurd (omega arith)), λ h. absurd (k h))

code_else : {l : List ℕ} {code : ℕ} → Refused l code → (code ≡ 11 → ⊥) → code ≡ 12
code_else (unknown e) h = absurd (h refl)
code_else (short k n) h = refl

byte_at : (l rest : List ℕ) (code : ℕ) → Refused rest code → (code ≡ 11) ↔ (told_by (get_or (l ++ rest) (length l) 0) ≡ Unknown)
byte_at l [] code f = absurd (omega (arith, refused_some f))
byte_at l (c ∷ rest) code f = rw (get_or-append_seam l c rest 0) (code_byte f)

refused_at : {l : List ℕ} {code n : ℕ} → Answered l code n → (code ≡ 0 → ⊥) → RefusedAt l code n
refused_at (accepted s) h = absurd (h refl)
refused_at (refused {ps} {l} {rest} {code} s f) h =
    record {
      within = omega (arith, refused_some f, length-append l rest);
      before = (ps, rw (take-append_seam l rest) s);
      nothing = subst NoPacket (sym (drop-append_seam l rest)) (refused_none f);
      furthest = λ qs m after t e. furthest t s f after e;
      byte = byte_at l rest code f;
      else = λ h. omega (arith, code_else f h);
    }

refused_back : (l : List ℕ) (code n : ℕ) → RefusedAt l code n → Answered l code n
refused_back l code n r =
    refused_from l n code (omega (arith, r.within)) r.before.1
    (subst (λ (x : List ℕ). Refused x code) (sym (drop-cons l n 0 r.within))
    (cases (eqb code 11) _
    (λ e. let f = eqb-true code 11 e in rw f (unknown (r.byte.0 f)))
    (λ e. let f = eqb-false code 11 e in let g : code ≡ 12 = omega (arith, r.else f) in rw g (short (λ u. f (r.byte.1 u)) (rw (drop-cons l n 0 r.within) at r.nothing)))))

answered_back : (l : List ℕ) (code n : ℕ) → Accepted l code n → ((code ≡ 0 → ⊥) → RefusedAt l code n) → Answered l code n
answered_back l code n a r =
    cases (eqb code 0) _
    (λ e. let f = eqb-true code 0 e in let s = a.splits f in rw (f, ← s.2) (accepted s.1))
    (λ e. refused_back l code n (r (eqb-false code 0 e)))

pub answered_exactly : AnsweredExactly
answered_exactly l code n = ((λ a. (accepted_exactly l code n a, refused_at a)), λ t. answered_back l code n t.0 t.1)

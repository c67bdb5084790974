-- The rows of a command are its causes, and FLAG has their bits.
use mathlib.Core.Bool.{Bool, true, false, cond, ◌||◌, or_assoc, or-false}
use mathlib.Core.List.{List, [], ◌∷◌, ◌++◌}
use mathlib.Core.Path.{◌≡◌, refl, sym, ap, ap₂, ◌∙◌, subst}
use Prim.Native.Nat.{ℕ, zero, suc, ◌+◌, ◌<◌, ◌≤◌}
use native.Mathlib.Omega.{arith}
use Rattle.std.specs.Prelude.{Ok}
use borrow.Author.Tests.{ne_eqb, eqb-true, eqb-false}
use lib.Dec.{T, eqb}
use lib.ListN.{length}
use Rattle.tables.specs.Every.{at}
use Rattle.words.specs.Words.{bit_at}
use Rattle.gte_arithmetic.specs.Checks.{Test, above, below, beyond, division, Check, fails, some}
use Rattle.gte_arithmetic.proofs.Flags.{some_++}
use Rattle.gte_registers.specs.Registers.{reg}
use Rattle.gte_inputs.specs.Inputs.{inputs_of}
use Rattle.gte.specs.Commands.{command_in, sf_of, lm_of, checks_of, joined, joined_from, outcome_of, command_of}
use Rattle.gte_laws.specs.Exact.{checks_at}
use Rattle.gte_laws.proofs.Exact.{demand_2}
use Rattle.gte_rows.specs.Rows.{Row, row_of, caused, causes, part_rows, rows_down, fourth, fifth, Whole, AllWhole, PartsWhole, more}
use Rattle.gte_causes.specs.Causes.{parts_at}
use Rattle.cause_laws.specs.Rows.{In, here, later, PartFrom, first, next, Tells, Cause, has_row, RowsLaw}
use Rattle.cause_laws.proofs.Value.{value}
use Rattle.cause_laws.proofs.Members.{all_in, rows_all, cause_has}
use Rattle.cause_laws.proofs.Bits.{all_fine, part_ranged}
use Rattle.cause_laws.proofs.Order.{rows_sorted}
use Rattle.cause_laws.proofs.Tests.{and_1, ranged_fine, ordered_fine}

-- ---- rows with a bit
has_++ : (b : ℕ) (xs ys : List Row) → has_row b (xs ++ ys) ≡ (has_row b xs || has_row b ys)
has_++ b [] ys = refl
has_++ b (x ∷ xs) ys = ap (λ (t : Bool). eqb x.bit b || t) (has_++ b xs ys) ∙ sym (or_assoc (eqb x.bit b) (has_row b xs) (has_row b ys))

-- the rows of bit b
set : (t : Bool) (b : ℕ) (r : Row) (rest : List Row) → (t ≡ true → eqb r.bit b ≡ true) → has_row b (cond t (r ∷ rest) rest) ≡ (t || has_row b rest)
set true b r rest h = rw (h refl)
set false b r rest h = refl

has_causes : (b p : ℕ) (cs : List Check) → has_row b (causes b p cs) ≡ some b cs
unfolding causes
has_causes b p [] = refl
has_causes b p (c ∷ cs) =
    set (caused b c) b (row_of p c) (causes b p cs) (and_1 (eqb c.bit b) (fails c.test)) ∙ ap (λ (t : Bool). caused b c || t) (has_causes b p cs)

-- the rows of another bit
unset : (t : Bool) (b : ℕ) (r : Row) (rest : List Row) → (t ≡ true → eqb r.bit b ≡ false) → has_row b (cond t (r ∷ rest) rest) ≡ has_row b rest
unset true b r rest h = rw (h refl)
unset false b r rest h = refl

has_no_causes : (a b p : ℕ) (cs : List Check) → (a ≡ b → ⊥) → has_row b (causes a p cs) ≡ false
unfolding causes
has_no_causes a b p [] n = refl
has_no_causes a b p (c ∷ cs) n =
    unset (caused a c) b (row_of p c) (causes a p cs) (λ e. ne_eqb c.bit b (λ k. n (sym (eqb-true c.bit a (and_1 (eqb c.bit a) (fails c.test) e)) ∙ k)))
    ∙ has_no_causes a b p cs n

-- ---- by part
abbrev some_in : ℕ → List (List Check) → Bool
some_in b [] = false
some_in b (cs ∷ parts) = some b cs || some_in b parts

has_parts : (b n : ℕ) (parts : List (List Check)) → has_row b (part_rows b n parts) ≡ some_in b parts
unfolding part_rows
has_parts b n [] = refl
has_parts b n (cs ∷ parts) = has_++ b (causes b n cs) (part_rows b (suc n) parts) ∙ ap₂ (λ (s t : Bool). s || t) (has_causes b n cs) (has_parts b (suc n) parts)

has_no_parts : (a b n : ℕ) (parts : List (List Check)) → (a ≡ b → ⊥) → has_row b (part_rows a n parts) ≡ false
unfolding part_rows
has_no_parts a b n [] k = refl
has_no_parts a b n (cs ∷ parts) k = has_++ b (causes a n cs) (part_rows a (suc n) parts) ∙ ap₂ (λ (s t : Bool). s || t) (has_no_causes a b n cs k) (has_no_parts a b (suc n) parts k)

some_from : (b : ℕ) (p : List Check) (ps : List (List Check)) → some b (joined_from p ps) ≡ some_in b (p ∷ ps)
some_from b p [] = sym (or-false (some b p))
some_from b p (q ∷ ps) = some_++ b p (joined_from q ps) ∙ ap (λ (t : Bool). some b p || t) (some_from b q ps)

some_joined : (b : ℕ) (parts : List (List Check)) → some b (joined parts) ≡ some_in b parts
some_joined b [] = refl
some_joined b (p ∷ ps) = some_from b p ps

-- ---- by bit
none_down : (k b : ℕ) (parts : List (List Check)) → 12 + k ≤ b → has_row b (rows_down k parts) ≡ false
unfolding rows_down
none_down zero b parts h = refl
none_down (suc k) b parts h =
    has_++ b (part_rows (12 + k) 1 parts) (rows_down k parts)
    ∙ ap₂ (λ (s t : Bool). s || t) (has_no_parts (12 + k) b 1 parts (λ e. omega arith)) (none_down k b parts (omega arith))

choose : (t : Bool) (k b : ℕ) (parts : List (List Check))
    → eqb (12 + k) b ≡ t
    → ((12 + k ≡ b → ⊥) → has_row b (rows_down k parts) ≡ some_in b parts)
    → (has_row b (part_rows (12 + k) 1 parts) || has_row b (rows_down k parts)) ≡ some_in b parts
choose true k b parts e f =
    let h = eqb-true (12 + k) b e in
    ap₂ (λ (s t : Bool). s || t) (subst (λ (x : ℕ). has_row b (part_rows x 1 parts) ≡ some_in b parts) (sym h) (has_parts b 1 parts)) (none_down k b parts (omega arith))
    ∙ or-false (some_in b parts)
choose false k b parts e f =
    let h = eqb-false (12 + k) b e in
    ap (λ (s : Bool). s || has_row b (rows_down k parts)) (has_no_parts (12 + k) b 1 parts h) ∙ f h

has_down : (k b : ℕ) (parts : List (List Check)) → 12 ≤ b → b < 12 + k → has_row b (rows_down k parts) ≡ some_in b parts
unfolding rows_down
has_down zero b parts l h = absurd (omega arith)
has_down (suc k) b parts l h =
    has_++ b (part_rows (12 + k) 1 parts) (rows_down k parts)
    ∙ choose (eqb (12 + k) b) k b parts refl (λ n. has_down k b parts l (less n))
  where
    less : (12 + k ≡ b → ⊥) → b < 12 + k
    less n = omega arith

-- ---- bits 30..12 are those of 7FFFF000h: a computed test
true_of : (t : Bool) → T t → t ≡ true
true_of true h = refl
true_of false h = absurd h

masked : (b : ℕ) → 12 ≤ b → b ≤ 30 → bit_at b 0x7fff_f000 ≡ true
masked b l u = true_of (bit_at b 0x7fff_f000) (at (λ k. bit_at k 0x7fff_f000) 12 19 tt b l (omega arith))

-- bits 30..12 of FLAG, each by its own checks
own : (word : ℕ) (w : List ℕ) → length w ≡ 64 → outcome_of word ≡ Ok tt → (b : ℕ) → 12 ≤ b → b ≤ 30 → bit_at b (reg (command_of word w) 63) ≡ some b (checks_at word w)
own word w h e b l u = rw (ne_eqb 31 b (λ k. omega arith), masked b l u) at (demand_2 word w h e b)

-- ---- the two words of a row are the whole value
tells : (t : Test) → Whole t → Tells t (fourth t) (fifth t)
tells (above z hi) f = value z f
tells (below z lo) f = value z f
tells (beyond z lo hi) f = value z f
tells (division h sz) f = (refl, refl)

in_whole : {c : Check} {cs : List Check} → AllWhole cs → In c cs → Whole c.test
in_whole {c = c} AllWhole.none h = elim h [ ]
in_whole (more f h) here = f
in_whole (more f h) (later i) = in_whole h i

part_whole : {c : Check} {cs : List Check} {n p : ℕ} {parts : List (List Check)} → PartsWhole parts → PartFrom cs n p parts → In c cs → Whole c.test
part_whole {c = c} {cs = cs} {n = n} {p = p} PartsWhole.none h i = elim h [ ]
part_whole (more f h) first i = in_whole f i
part_whole (more f h) (next q) i = part_whole h q i

pub rows_law : RowsLaw
unfolding checks_of
rows_law word w h e f =
    let parts = parts_at word w in
    let fine = all_fine (command_in word) (sf_of word) (lm_of word) word (inputs_of w) in
    record {
      sound = λ r i.
          all_in
          (rows_all (Cause parts) 19 parts
          (λ p cs c q k g. record { part = p; checks = cs; check = c; is_part = q; in_part = k; failing = g; row = refl; tells = tells c.test (part_whole f q k) }))
          i;
      complete = λ p cs c q i g. let l = part_ranged q i (ranged_fine parts fine) in cause_has q i g l.0 l.1;
      sorted = rows_sorted 19 parts (ordered_fine parts fine);
      flag = λ b l u. own word w h e b l u ∙ some_joined b parts ∙ sym (has_down 19 b parts l (omega arith));
    }

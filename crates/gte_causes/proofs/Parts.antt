-- The parts of a command: each lists its rows, one after another.
use mathlib.Core.List.{List, [], ◌∷◌}
use mathlib.Core.Path.{◌≡◌, refl, ap, ◌∙◌, subst}
use Prim.Native.Nat.{ℕ, ◌+◌, ◌*◌, ◌≤◌}
use native.Mathlib.Omega.{arith}
use Rattle.gte_arithmetic.specs.Checks.{Check}
use Rattle.gte_rows.specs.Rows.{part_rows, none, more}
use Rattle.gte_rows.specs.Listing.{Lists, listed, Most, ListsMost}
use Rattle.gte_rows.specs.declared.rows.Rows.{Rows}
use Rattle.gte_rows.specs.declared.rows.Wanted.{Wanted}
use Rattle.gte_rows.proofs.Listings.{no_rows, after, most}
use Rattle.gte_inputs.specs.Inputs.{inputs_of}
use Rattle.gte.specs.Commands.{Command, command_in, sf_of, lm_of, parts_of}
use Rattle.gte_causes.specs.Causes.{parts_at, ListsParts}

-- the same rows, asked for part p
abbrev pub in_part : ℕ → Rows → Rows
in_part p s = record { out = s.out; count = s.count; wanted = record { bit = s.wanted.bit; part = p } }

same_bit : {v w : Wanted} → v ≡ w → v.bit ≡ w.bit
same_bit e = ap (λ (w : Wanted). w.bit) e

-- ---- one part, and three
pub single : {j k : ℕ} {cs : List Check} {s t : Rows} → j ≤ k → ListsMost j cs (in_part 1 s) t → ListsParts k (cs ∷ []) s t
unfolding part_rows
single {j} {k} {cs} {s} {t} h e =
    let c = e.most.count in
    record {
      lists = record { rows = after e.lists.rows (no_rows (listed t)); whole = more e.lists.whole none };
      count = omega arith;
      bit = same_bit e.most.wanted;
      words = e.most.words;
    }

pub triple : {j k : ℕ} {p q r : List Check} {s t u v : Rows}
    → ListsMost j p (in_part 1 s) t
    → ListsMost j q (in_part 2 t) u
    → ListsMost j r (in_part 3 u) v
    → 3 * j ≤ k
    → ListsParts k (p ∷ q ∷ r ∷ []) s v
unfolding part_rows
triple {j} {k} {p} {q} {r} {s} {t} {u} {v} e f g h =
    let d = same_bit e.most.wanted in
    let d' = same_bit f.most.wanted ∙ d in
    let y = subst (λ (b : ℕ). Lists b 2 q (listed t) (listed u)) d f.lists in
    let z = subst (λ (b : ℕ). Lists b 3 r (listed u) (listed v)) d' g.lists in
    record {
      lists = record { rows = after e.lists.rows (after y.rows (after z.rows (no_rows (listed v)))); whole = more e.lists.whole (more y.whole (more z.whole none)) };
      count = sum s.count t.count u.count v.count e.most.count f.most.count g.most.count;
      bit = same_bit g.most.wanted ∙ d';
      words = g.most.words ∙ f.most.words ∙ e.most.words;
    }
  where
    sum : (m n o p : ℕ) → n ≤ m + j → o ≤ n + j → p ≤ o + j → p ≤ m + k
    sum m n o p x y z = omega arith

-- which part was asked for does not matter
pub any_part : {k : ℕ} {parts : List (List Check)} {s t : Rows} → ListsParts k parts (in_part 1 s) t → ListsParts k parts s t
any_part e = record { lists = e.lists; count = e.count; bit = e.bit; words = e.words }

pub nothing : {k : ℕ} (s : Rows) → ListsParts k [] s (in_part 1 s)
unfolding part_rows
nothing s = record { lists = record { rows = no_rows (listed s); whole = none }; count = omega arith; bit = refl; words = refl }

-- a word whose command is c
pub of : {k : ℕ} {s t : Rows} (w : List ℕ) (c : Command) (word : ℕ)
    → command_in word ≡ c
    → ListsParts k (parts_of c (sf_of word) (lm_of word) word (inputs_of w)) s t
    → ListsParts k (parts_at word w) s t
of w c word e h = rw e h

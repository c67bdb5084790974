-- Listings: the five stores of a row, and what a list of checks leaves of one.
use mathlib.Core.Bool.{Bool, true, false, cond}
use mathlib.Core.List.{List, [], ◌∷◌, ◌++◌}
use mathlib.Core.Path.{◌≡◌, refl, sym, ap, ◌∙◌, subst}
use Prim.Native.Nat.{ℕ, suc, ◌+◌, ◌<◌, ◌≤◌}
use native.Mathlib.Omega.{arith}
use borrow.Author.Tests.{le-leb, lt-leb, ne_eqb}
use lib.ListN.{length, set}
use Rattle.gte_arithmetic.specs.Checks.{Check}
use Rattle.gte_rows.specs.Rows.{Row, row_of, caused, causes, Whole, AllWhole, none, more}
use Rattle.gte_rows.specs.Listing.{Listing, listing, add_row, add_rows, Adds, Lists, listed, Most, ListsMost}
use Rattle.gte_rows.specs.declared.rows.Wanted.{Wanted}
use Rattle.gte_rows.specs.declared.rows.Rows.{Rows}

at_1 : (a : ℕ) → a + 1 ≡ suc a
at_1 a = omega arith

at_2 : (a : ℕ) → a + 2 ≡ suc (suc a)
at_2 a = omega arith

at_3 : (a : ℕ) → a + 3 ≡ suc (suc (suc a))
at_3 a = omega arith

at_4 : (a : ℕ) → a + 4 ≡ suc (suc (suc (suc a)))
at_4 a = omega arith

-- ---- a row
pub row_short : (r : Row) (n : ℕ) (ws : List ℕ) → length ws < n + 5 → listing (n + 5) ws ≡ add_row r (listing n ws)
unfolding add_row
row_short r n ws h = rw (lt-leb (n + 5) (length ws) h)

pub row_put : (r : Row) (n : ℕ) (ws : List ℕ)
    → n + 5 ≤ length ws
    → listing (n + 5) (set (set (set (set (set ws n r.bit) (n + 1) r.part) (n + 2) r.line) (n + 3) r.low) (n + 4) r.high) ≡ add_row r (listing n ws)
unfolding add_row
row_put r n ws h = rw (le-leb (n + 5) (length ws) h, at_1, at_2, at_3, at_4)

-- ---- one list of rows after another
pub rows_++ : (xs ys : List Row) (s : Listing) → add_rows (xs ++ ys) s ≡ add_rows ys (add_rows xs s)
unfolding add_rows
rows_++ [] ys s = refl
rows_++ (r ∷ xs) ys s = rows_++ xs ys (add_row r s)

pub after : {xs ys : List Row} {s t u : Listing} → Adds xs s t → Adds ys t u → Adds (xs ++ ys) s u
after {xs} {ys} {s} e f = record { is = f.is ∙ ap (add_rows ys) e.is ∙ sym (rows_++ xs ys s) }

pub no_rows : (s : Listing) → Adds [] s s
unfolding add_rows
no_rows s = record { is = refl }

-- ---- one list of checks after another
chosen : (t : Bool) (r : Row) (xs ys zs : List Row) → xs ≡ ys ++ zs → cond t (r ∷ xs) xs ≡ cond t (r ∷ ys) ys ++ zs
chosen true r xs ys zs h = ap (λ (rs : List Row). r ∷ rs) h
chosen false r xs ys zs h = h

causes_++ : (b p : ℕ) (xs ys : List Check) → causes b p (xs ++ ys) ≡ causes b p xs ++ causes b p ys
unfolding causes
causes_++ b p [] ys = refl
causes_++ b p (c ∷ xs) ys = chosen (caused b c) (row_of p c) (causes b p (xs ++ ys)) (causes b p xs) (causes b p ys) (causes_++ b p xs ys)

whole_++ : {xs ys : List Check} → AllWhole xs → AllWhole ys → AllWhole (xs ++ ys)
whole_++ none k = k
whole_++ (more h g) k = more h (whole_++ g k)

both : {b p : ℕ} {xs ys : List Check} {s t u : Listing} → Lists b p xs s t → Lists b p ys t u → Lists b p (xs ++ ys) s u
both {b} {p} {xs} {ys} {s} {t} {u} e f =
    record { rows = subst (λ (rs : List Row). Adds rs s u) (sym (causes_++ b p xs ys)) (after e.rows f.rows); whole = whole_++ e.whole f.whole }

pub most : {j k : ℕ} {s t u : Rows} → Most j s t → Most k t u → Most (j + k) s u
most {j} {k} e f = record { count = omega arith; wanted = f.wanted ∙ e.wanted; words = f.words ∙ e.words }

pub then : {j k : ℕ} {xs ys : List Check} {s t u : Rows} → ListsMost j xs s t → ListsMost k ys t u → ListsMost (j + k) (xs ++ ys) s u
then {j} {k} {xs} {ys} {s} {t} {u} e f =
    record { lists = both e.lists (subst (λ (w : Wanted). Lists w.bit w.part ys (listed t) (listed u)) e.most.wanted f.lists); most = most e.most f.most }

-- ---- one check
lone : (t : Bool) (r : Row) (s : Listing) → cond t (add_row r s) s ≡ add_rows (cond t (r ∷ []) []) s
unfolding add_rows
lone true r s = refl
lone false r s = refl

pub one : {k : ℕ} (c : Check) (s t : Rows)
    → Whole c.test
    → listed t ≡ cond (caused s.wanted.bit c) (add_row (row_of s.wanted.part c) (listed s)) (listed s)
    → Most k s t
    → ListsMost k (c ∷ []) s t
unfolding causes
one c s t h e m =
    record { lists = record { rows = record { is = e ∙ lone (caused s.wanted.bit c) (row_of s.wanted.part c) (listed s) }; whole = more h none }; most = m }

-- ---- checks of bits that are not asked for
pub none_left : {k : ℕ} (s : Rows) → ListsMost k [] s s
unfolding causes
none_left s = record { lists = record { rows = no_rows (listed s); whole = none }; most = record { count = omega arith; wanted = refl; words = refl } }

pub past : {k : ℕ} {c : Check} {cs : List Check} {s t : Rows} → (c.bit ≡ s.wanted.bit → ⊥) → Whole c.test → ListsMost k cs s t → ListsMost k (c ∷ cs) s t
unfolding causes
past {k} {c} {cs} {s} {t} h w l =
    record { lists = record { rows = rw (ne_eqb c.bit s.wanted.bit h) l.lists.rows; whole = more w l.lists.whole }; most = l.most }

-- The loop over the bits, and what the lent words then hold.
use mathlib.Core.List.{List, [], ◌∷◌, ◌++◌}
use mathlib.Core.Path.{◌≡◌, refl, sym, ap, ◌∙◌}
use Prim.Native.Nat.{ℕ, suc, ◌+◌, ◌*◌, ◌-◌, ◌<◌, ◌≤◌}
use native.Mathlib.Omega.{arith}
use native.Mathlib.Nat.{zero-add}
use borrow.Author.Tests.{le-leb, lt-leb}
use lib.ListN.{length, drop}
use lib.Seq.{sets, sets-eq, length-sets}
use Rattle.gte_arithmetic.specs.Checks.{Check}
use Rattle.gte_rows.specs.Rows.{PartsWhole, Row, row_words, part_rows, rows_down, rows_of, words_of}
use Rattle.gte_rows.specs.Listing.{Listing, listing, listed, add_row, add_rows, Adds}
use Rattle.gte_rows.specs.declared.rows.Rows.{Rows}
use Rattle.gte_rows.proofs.Listings.{rows_++}
use Rattle.gte_causes.specs.Causes.{ListsParts}
use Rattle.image.specs.Refusals.{first_of}
use Rattle.causes.specs.Causes.{answered, number_of, words_after, fitting}

-- ---- the loop: the bits from 12 up to b are left
pub record Going (parts : List (List Check)) (s t : Rows) (b : ℕ) : Type 0 where
  pub low : 12 ≤ b
  pub high : b ≤ 31
  pub small : t.count + 585 * b ≤ s.count + 585 * 31
  pub words : t.out.ghost_name ≡ s.out.ghost_name
  pub whole : b < 31 → PartsWhole parts
  pub left : add_rows (rows_down (b - 12) parts) (listed t) ≡ add_rows (rows_down 19 parts) (listed s)

down : (parts : List (List Check)) (k b c : ℕ) → k ≡ suc c → 12 + c ≡ b → rows_down k parts ≡ part_rows b 1 parts ++ rows_down c parts
unfolding rows_down
down parts k b c e f = rw e (ap (λ (n : ℕ). part_rows n 1 parts ++ rows_down c parts) f)

-- t lists bit b - 1, and is u then
pub going_next : {parts : List (List Check)} {s t u : Rows} {b : ℕ}
    → 12 < b
    → Going parts s t b
    → ListsParts 585 parts (record t { wanted = record { bit = b - 1; part = t.wanted.part } }) u
    → Going parts s u (b - 1)
going_next {parts} {s} {t} {u} {b} h g w =
    let k = b - 1 - 12 in
    let small = g.small in
    let high = g.high in
    let count = w.count in
    record {
      low = omega arith;
      high = omega arith;
      small = omega arith;
      words = w.words ∙ g.words;
      whole = λ i. w.lists.whole;
      left = ap (add_rows (rows_down k parts)) w.lists.rows.is
          ∙ sym (rows_++ (part_rows (b - 1) 1 parts) (rows_down k parts) (listed t))
          ∙ ap (λ (rs : List Row). add_rows rs (listed t)) (sym (down parts (b - 12) (b - 1) k (omega arith) (omega arith)))
          ∙ g.left;
    }

pub going_last : {parts : List (List Check)} {s t : Rows} {b : ℕ} → b ≤ 12 → Going parts s t b → Adds (rows_of parts) (listed s) (listed t)
unfolding rows_down add_rows
going_last {parts} {s} {t} {b} h g =
    let z : b - 12 ≡ 0 = omega arith in
    record { is = rw z at g.left }

-- ---- what rows leave: their number of words is counted, and where they fit they are stored in a row
pub counts : (rows : List Row) (s : Listing) → (add_rows rows s).count ≡ s.count + length (words_of rows)
unfolding add_rows add_row words_of
counts [] s = omega arith
counts (r ∷ rows) s = counts rows (add_row r s) ∙ omega arith

fits_first : (n k l : ℕ) → n + suc (suc (suc (suc (suc k)))) ≤ l → n + 5 ≤ l
fits_first n k l h = omega arith

five : (n : ℕ) → n + 5 ≡ suc (suc (suc (suc (suc n))))
five n = omega arith

add_fits : (r : Row) (n : ℕ) (ws : List ℕ) → n + 5 ≤ length ws → add_row r (listing n ws) ≡ listing (n + 5) (sets ws n (row_words r))
unfolding add_row
add_fits r n ws h = rw (le-leb (n + 5) (length ws) h)

pub stores : (rows : List Row) (n : ℕ) (ws : List ℕ) → n + length (words_of rows) ≤ length ws → (add_rows rows (listing n ws)).words ≡ sets ws n (words_of rows)
unfolding add_rows words_of
stores [] n ws h = refl
stores (r ∷ rows) n ws h =
    ap (λ (s : Listing). (add_rows rows s).words) (add_fits r n ws (fits_first n (length (words_of rows)) (length ws) h))
    ∙ stores rows (n + 5) (sets ws n (row_words r)) (rw (length-sets ws n (row_words r)) (omega arith))
    ∙ ap (λ (k : ℕ). sets (sets ws n (row_words r)) k (words_of rows)) (five n)

pub counted : {rows : List Row} {ws ws' : List ℕ} {n : ℕ} → Adds rows (listing 0 ws) (listing n ws') → n ≡ length (words_of rows)
counted {rows} {ws} h = ap (λ (s : Listing). s.count) h.is ∙ counts rows (listing 0 ws) ∙ zero-add (length (words_of rows))

-- ---- rows that do not fit, and rows that do
pub too_short : (rows ws : List ℕ) (n : ℕ) → n ≡ length rows → length ws < n → answered 8 n ws ≡ fitting rows ws
unfolding fitting first_of number_of words_after
too_short rows ws n e h = rw (e, lt-leb (length rows) (length ws) (rw e at h))

placed : (ws vs : List ℕ) → length vs ≤ length ws → sets ws 0 vs ≡ vs ++ drop (length vs) ws
placed ws vs h = sets-eq vs ws 0 (rw (zero-add (length vs)) h) ∙ ap (λ (k : ℕ). vs ++ drop k ws) (zero-add (length vs))

pub all_fit : {rows : List Row} {ws ws' : List ℕ} {n : ℕ} (k : ℕ)
    → Adds rows (listing 0 ws) (listing n ws')
    → k ≡ length (words_of rows)
    → k ≤ length ws
    → answered 0 k ws' ≡ fitting (words_of rows) ws
unfolding fitting first_of number_of words_after
all_fit {rows} {ws} {ws'} {n} k h e l =
    let f = rw e at l in
    let s = ap (λ (t : Listing). t.words) h.is ∙ stores rows 0 ws (rw (zero-add (length (words_of rows))) f) ∙ placed ws (words_of rows) f in
    rw (e, le-leb (length (words_of rows)) (length ws) f, s)

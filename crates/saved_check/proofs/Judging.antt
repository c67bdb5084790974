-- What a field at a place, and the verdict on what follows it, say of the tail from that place on.
use mathlib.Core.List.{List}
use mathlib.Core.Logic.{inl, inr}
use mathlib.Core.Path.{◌≡◌, ◌∙◌}
use Rattle.std.specs.Prelude.{Result, Ok, Err}
use Prim.Native.Nat.{ℕ, suc, ◌+◌, ◌<◌, ◌≤◌}
use native.Mathlib.Omega.{arith}
use lib.ListN.{length, get_or, drop, drop_of_length-le}
use lib.Seq.{get_or-drop, drop-cons}
use Rattle.saved_format.specs.Tails.{Field, Nothing, Pad, Ram, Next, Block, File}
use Rattle.saved_format.proofs.Fields.{past_is, past_stops, cut_stops}
use Rattle.saved_format.proofs.Tails.{some_nothing, some_end, some_ram, some_geometry, nothing_stops, some_pad, to_ram, pad_stops, block_stops, ram_stops}
use Rattle.saved_format.proofs.Whole.{from_file, file_stops}
use Rattle.saved_check.specs.Check.{Stands, FieldAt, Judged, Checked}
use Rattle.saved_check.specs.declared.Malformed.{Malformed}

-- ---- a field and then the rest
module _ (tag low high : ℕ) (P : ℕ → List ℕ → Type 0) (f : List ℕ) (at : ℕ) where
  -- the field stands there: the verdict on what follows it is that on both
  beyond : (next : ℕ) (s : Stands tag low high f at next) (v : Result Unit Malformed) → Judged (P (length s.content)) f next v → Judged (Field tag low high P) f at v
  unfolding Judged
  beyond next s (Ok _) j = past_is tag low high P _ s.content (drop next f) s.fits s.is j
  beyond next s (Err e) j = (
    suc (suc (suc (length s.content + j.0))),
    omega (arith, j.1, s.ends),
    past_stops tag low high P _ s.content (drop next f) j.0 s.fits s.is j.2,
  )

  pub past_judged : (next : ℕ) → FieldAt tag low high f at (Ok next) → (v : Result Unit Malformed) → ((n : ℕ) → Judged (P n) f next v) → Judged (Field tag low high P) f at v
  unfolding FieldAt
  past_judged next h v j = beyond next h v (j (length h.content))

  pub stop_judged : (e : Malformed) → FieldAt tag low high f at (Err e) → ((n : ℕ) → (t : List ℕ) × P n t) → Judged (Field tag low high P) f at (Err e)
  unfolding Judged FieldAt
  stop_judged e h some = (h.0, h.1, cut_stops tag low high P (drop at f) h.0 some h.2)

-- ---- the whole file
pub whole_judged : (f : List ℕ) (v : Result Unit Malformed) → Judged File f 0 v → Checked f v
unfolding Judged Checked
whole_judged f (Ok _) j = from_file f j
whole_judged f (Err e) j =
    let k : j.0 ≡ e.0 = omega (arith, j.1) in
    file_stops f e.0 (rw k at j.2)

-- ---- nothing
pub nothing_formed : (f : List ℕ) (at : ℕ) → length f ≤ at → Judged Nothing f at (Ok tt)
unfolding Judged
nothing_formed f at h = drop_of_length-le f h

pub nothing_malformed : (f : List ℕ) (at : ℕ) → at < length f → Judged Nothing f at (Err (record { 0 = at }))
unfolding Judged
nothing_malformed f at h = (0, omega arith, rw (drop-cons f at 0 h) (nothing_stops _ _))

-- ---- the blocks
at_front : (f : List ℕ) (at : ℕ) → get_or (drop at f) 0 0 ≡ get_or f at 0
at_front f at = let e : at + 0 ≡ at = omega arith in rw (get_or-drop at f 0 0, e)

as_ram : (f : List ℕ) (at : ℕ) (v : Result Unit Malformed) → Judged Block f at v → Judged Ram f at v
unfolding Judged
as_ram f at (Ok _) j = to_ram _ j
as_ram f at (Err e) j = (j.0, j.1, ram_stops _ j.0 j.2)

next_last : (n : ℕ) (f : List ℕ) (at : ℕ) (v : Result Unit Malformed) → (n ≡ 32768 → get_or f at 0 ≡ 3 → ⊥) → Judged Pad f at v → Judged (Next n) f at v
unfolding Judged
next_last n f at (Ok _) h j = inl j
next_last n f at (Err m) h j = (j.0, j.1, pad_stops n (drop at f) j.0 (λ e. rw (at_front f at) (h e)) j.2)

next_more : (n : ℕ) (f : List ℕ) (at : ℕ) (v : Result Unit Malformed) → n ≡ 32768 → get_or f at 0 ≡ 3 → Judged Ram f at v → Judged (Next n) f at v
unfolding Judged
next_more n f at (Ok _) e h j = inr (e, j)
next_more n f at (Err m) e h j = (j.0, j.1, block_stops n (drop at f) j.0 e (at_front f at ∙ h) j.2)

module _ (f : List ℕ) (at next : ℕ) (h : FieldAt 3 1 32768 f at (Ok next)) (v : Result Unit Malformed) where
  -- no block follows the one from at to next
  pub ram_last : ((next ≡ at + 32771) × (get_or f next 0 ≡ 3) → ⊥) → Judged Pad f next v → Judged Ram f at v
  unfolding FieldAt
  ram_last a j =
      as_ram f at v
      (beyond 3 1 32768 Next f at next h v (next_last (length h.content) f next v (λ n t. a (omega (arith, h.ends), t)) j))

  -- another one does
  pub ram_more : (next ≡ at + 32771) × (get_or f next 0 ≡ 3) → Judged Ram f next v → Judged Ram f at v
  unfolding FieldAt
  ram_more a j =
      as_ram f at v
      (beyond 3 1 32768 Next f at next h v (next_more (length h.content) f next v (omega (arith, a.0, h.ends)) a.1 j))

pub ram_stop : (f : List ℕ) (at : ℕ) (e : Malformed) → FieldAt 3 1 32768 f at (Err e) → Judged Ram f at (Err e)
ram_stop f at e h = as_ram f at (Err e) (stop_judged 3 1 32768 Next f at e h (λ m. (some_pad.0, inl some_pad.1)))

-- what the verdicts from a place on are by
pub ruleset judging = (nothing_formed, nothing_malformed, past_judged, stop_judged, ram_last, ram_more, ram_stop, whole_judged, some_nothing, some_end, some_ram, some_geometry)

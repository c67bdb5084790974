-- A window lies in its memory, and is what is asked of it byte by byte.
use Prim.Native.Nat.{ℕ, ◌+◌, ◌-◌, ◌/◌, ◌%◌, ◌<◌, ◌≤◌}
use mathlib.Core.Bool.{Bool, true, false, cond, ◌&&◌, and-eq-true_iff}
use mathlib.Core.Path.{◌≡◌, refl, sym, ◌∙◌}
use native.Mathlib.Omega.{arith}
use lib.Dec.{ltb, leb}
use borrow.Author.Tests.{eqb-true, leb-true, leb-false, le-leb, lt-ltb, le-ltb}
use Rattle.memory.specs.Addresses.{ram_length, mapped, pad_mapped, in_pad, beyond_ram, segment_of, physical_of, pad_at, pad_base, pad_length}
use Rattle.memory.specs.declared.addresses.Phys.{Phys}
use Rattle.memory.specs.declared.addresses.Place.{Place}
use Rattle.memory.specs.declared.addresses.Place.TheVariants.{Ram, Pad}
use Rattle.memory.specs.declared.addresses.Fault.{Fault}
use Rattle.std.specs.Prelude.{Result, Ok, Err}
use Rattle.memory.proofs.Places as places
use Rattle.window.specs.Window.{part, nothing, part_from, part_at, good_lengths, part_of, chosen, AllInRam, AllInPad, NotEmpty, WindowExact}
use Rattle.window.specs.declared.Part.{Part}

differ : {A : Type 0} → ◌≡◌ {A = Bool} true false → A
differ z = cc

-- ---- good lengths
record Good (ram pad : ℕ) : Type 0 where
  most : ram ≤ 2097152
  whole : pad ≡ pad_length

good : (ram pad : ℕ) → good_lengths ram pad ≡ true → Good ram pad
good ram pad h =
    let s = (and-eq-true_iff (ram_length ram) _).0 h in
    record { most = places.short ram s.0; whole = eqb-true _ _ s.1 }

-- ---- a stretch of physical memory from base up to its end, which some segments reach
record In (reached : ℕ → Bool) (base end a : ℕ) : Type 0 where
  segment : reached a ≡ true
  above : base ≤ a % 0x2000_0000
  below : a % 0x2000_0000 < end

abbrev AllIn : (ℕ → Bool) → ℕ → ℕ → ℕ → ℕ → Type 0
AllIn reached base end a n = (i : ℕ) → i < n → In reached base end ((a + i) % 0x1_0000_0000)

past : (end a i : ℕ) → a % 0x2000_0000 < end → i ≡ end - a % 0x2000_0000 → end < 0x2000_0000 → (a + i) % 0x1_0000_0000 % 0x2000_0000 ≡ end
past end a i h e m = omega arith

-- a range whose bytes are all there is no longer than what is left
room : (reached : ℕ → Bool) (base end a n : ℕ) → end < 0x2000_0000 → a % 0x2000_0000 < end → AllIn reached base end a n → n ≤ end - a % 0x2000_0000
room reached base end a n m h all = by_test (leb n (end - a % 0x2000_0000)) refl where
  by_test : (b : Bool) → leb n (end - a % 0x2000_0000) ≡ b → n ≤ end - a % 0x2000_0000
  by_test true e = leb-true _ _ e
  by_test false e =
      let i : ℕ = end - a % 0x2000_0000 in
      let lt : i < n = leb-false n i e in
      let b : (a + i) % 0x1_0000_0000 % 0x2000_0000 < end = (all i lt).below in
      let c = past end a i h refl m in
      absurd (omega arith)

first : (reached : ℕ → Bool) (base end a n : ℕ) → a < 0x1_0000_0000 → 0 < n → AllIn reached base end a n → In reached base end a
first reached base end a n f h all = let e : (a + 0) % 0x1_0000_0000 ≡ a = omega arith in rw e at (all 0 h)

-- the address of byte i keeps its segment and its place
same_top : (end a i : ℕ) → a < 0x1_0000_0000 → a % 0x2000_0000 + i < end → end < 0x2000_0000 → (a + i) % 0x1_0000_0000 / 0x2000_0000 ≡ a / 0x2000_0000
same_top end a i f h m = omega arith

same_low : (end a i : ℕ) → a < 0x1_0000_0000 → a % 0x2000_0000 + i < end → end < 0x2000_0000 → (a + i) % 0x1_0000_0000 % 0x2000_0000 ≡ a % 0x2000_0000 + i
same_low end a i f h m = omega arith

-- which segments reach a memory is told by the top three bits
abbrev ByTop : (ℕ → Bool) → Type 0
ByTop reached = (a b : ℕ) → b / 0x2000_0000 ≡ a / 0x2000_0000 → reached a ≡ true → reached b ≡ true

each : (reached : ℕ → Bool) (base end a n : ℕ) → ByTop reached → a < 0x1_0000_0000 → end < 0x2000_0000 → In reached base end a → n ≤ end - a % 0x2000_0000 → AllIn reached base end a n
each reached base end a n top f m s h i lt =
    let r : a % 0x2000_0000 + i < end = omega (arith, s.below) in
    let l = same_low end a i f r m in
    record { segment = top a _ (same_top end a i f r m) s.segment; above = rw l (omega (arith, s.above)); below = rw l r }

-- ---- the two memories
mapped_top : ByTop mapped
unfolding mapped
mapped_top a b e h = rw e h

pad_top : ByTop pad_mapped
pad_top a b e h = rw e h

abbrev pad_end : ℕ
pad_end = pad_base + pad_length

abbrev InRam : ℕ → ℕ → Type 0
InRam len a = In mapped 0 len a

abbrev InPad : ℕ → Type 0
InPad a = In pad_mapped pad_base pad_end a

by_one : (a : ℕ) → a % 1 ≡ 0
by_one a = omega arith

in_ram : (a len : ℕ) (p : Phys) → segment_of a len ≡ Ok (Ram p) → (p.0 ≡ a % 0x2000_0000) × InRam len a
in_ram a len p e =
    let t : places.InRam a 1 len p = rw e at (places.segment_tells a 1 len (by_one a)) in
    (t.is, record { segment = t.reached; above = omega arith; below = rw (← t.is) t.below })

in_pad_lem : (a len : ℕ) (p : Phys) → segment_of a len ≡ Ok (Pad p) → (p.0 ≡ a % 0x2000_0000) × InPad a
in_pad_lem a len p e =
    let b : places.Beyond a 1 (Ok (Pad p)) = rw e at (places.segment_tells a 1 len (by_one a)) in
    let t = places.in_pad_lem a p b.is in
    (t.is, record { segment = t.reached; above = rw (← t.is) t.above; below = rw (← t.is) t.below })

is_in_ram : (a len : ℕ) → InRam len a → segment_of a len ≡ Ok (Ram (physical_of a))
unfolding segment_of
is_in_ram a len s = rw (s.segment, lt-ltb _ _ s.below)

not_in_ram : (b : Bool) (x len : ℕ) → len ≤ x → (b && ltb x len) ≡ false
not_in_ram true x len h = le-ltb _ _ h
not_in_ram false x len h = refl

is_in_pad : (a len : ℕ) → len ≤ 2097152 → InPad a → segment_of a len ≡ Ok (Pad (physical_of a))
unfolding segment_of beyond_ram in_pad
is_in_pad a len m s =
    let l : len ≤ a % 0x2000_0000 = omega (arith, s.above) in
    rw (not_in_ram (mapped a) _ _ l, s.segment, le-leb _ _ s.above, lt-ltb _ _ s.below)

-- ---- bounds of a part
pub record Inside (p : Part) (ram pad : ℕ) : Type 0 where
  pub within : p.at + p.length ≤ chosen p ram pad
  pub small : p.at + p.length ≤ 2097152

none_inside : (ram pad : ℕ) → Inside nothing ram pad
none_inside ram pad = record { within = omega arith; small = omega arith }

from_by : (b side : Bool) (at n len ram pad : ℕ) → leb n (len - at) ≡ b → at ≤ len → len ≤ 2097152 → len ≡ cond side pad ram → Inside (cond b (part side at n) nothing) ram pad
from_by true side at n len ram pad e h m q = let l = leb-true n (len - at) e in record { within = rw (← q) (omega arith); small = omega arith }
from_by false side at n len ram pad e h m q = none_inside ram pad

from_inside : (side : Bool) (at n len ram pad : ℕ) → at ≤ len → len ≤ 2097152 → len ≡ cond side pad ram → Inside (part_from side at n len) ram pad
unfolding part_from
from_inside side at n len ram pad h m q = from_by (leb n (len - at)) side at n len ram pad refl h m q

-- the place of a part is no further than its memory's end
pub ram_place : (a len : ℕ) (p : Phys) → segment_of a len ≡ Ok (Ram p) → p.0 ≤ len
ram_place a len p e = let s = in_ram a len p e in omega (arith, s.0, s.1.below)

pub pad_base_lem : (a len : ℕ) (p : Phys) → segment_of a len ≡ Ok (Pad p) → pad_base ≤ p.0
pad_base_lem a len p e = let s = in_pad_lem a len p e in omega (arith, s.0, s.1.above)

pub pad_place : (a len : ℕ) (p : Phys) → segment_of a len ≡ Ok (Pad p) → pad_at p ≤ pad_length
pad_place a len p e = let s = in_pad_lem a len p e in omega (arith, s.0, s.1.below)

at_by : (q : Result Place Fault) (a n ram pad : ℕ) → segment_of a ram ≡ q → Good ram pad → Inside (part_at q n ram) ram pad
at_by (Ok (Ram p)) a n ram pad e g = from_inside false p.0 n ram ram pad (ram_place a ram p e) g.most refl
at_by (Ok (Pad p)) a n ram pad e g = from_inside true (pad_at p) n pad_length ram pad (pad_place a ram p e) (omega arith) (sym g.whole)
at_by (Err f) a n ram pad e g = none_inside ram pad

-- what a part ensures that is found at a place
pub placed : (q : Result Place Fault) (a n ram pad : ℕ) (r : Part) → segment_of a ram ≡ q → good_lengths ram pad ≡ true → r ≡ part_at q n ram → Inside r ram pad
placed q a n ram pad r e g p = rw p (at_by q a n ram pad e (good ram pad g))

part_by : (b : Bool) (a n ram pad : ℕ) → good_lengths ram pad ≡ b → Inside (cond b (part_at (segment_of a ram) n ram) nothing) ram pad
part_by true a n ram pad e = at_by (segment_of a ram) a n ram pad refl (good ram pad e)
part_by false a n ram pad e = none_inside ram pad

pub part_inside : (a n ram pad : ℕ) → Inside (part_of a n ram pad) ram pad
unfolding part_of
part_inside a n ram pad = part_by (good_lengths ram pad) a n ram pad refl

-- ---- empty exactly when
from_only : (b side : Bool) (at n len : ℕ) → leb n (len - at) ≡ b → 0 < (cond b (part side at n) nothing).length → (0 < n) × ((n ≤ len - at) × ((cond b (part side at n) nothing).pad ≡ side))
from_only true side at n len e h = (h, (leb-true n (len - at) e, refl))
from_only false side at n len e h = absurd (omega arith)

at_only : (q : Result Place Fault) (a n ram pad : ℕ) → segment_of a ram ≡ q → a < 0x1_0000_0000 → ram ≤ 2097152 → good_lengths ram pad ≡ true → 0 < (part_at q n ram).length → NotEmpty (part_at q n ram) a n ram pad
unfolding part_from
at_only (Ok (Ram p)) a n ram pad e f m ok h =
    let s = in_ram a ram p e in
    let o = from_only (leb n (ram - p.0)) false p.0 n ram refl h in
    let l : n ≤ ram - a % 0x2000_0000 = omega (arith, o.1.0, s.0) in
    record {
      some = o.0;
      lengths = ok;
      in_ram = λ z i lt. is_in_ram _ ram (each mapped 0 ram a n mapped_top f (omega arith) s.1 l i lt);
      in_pad = λ z. differ (sym z ∙ o.1.1);
    }
at_only (Ok (Pad p)) a n ram pad e f m ok h =
    let s = in_pad_lem a ram p e in
    let o = from_only (leb n (pad_length - pad_at p)) true (pad_at p) n pad_length refl h in
    let l : n ≤ pad_end - a % 0x2000_0000 = omega (arith, o.1.0, s.0, s.1.above) in
    record {
      some = o.0;
      lengths = ok;
      in_ram = λ z. differ (sym o.1.1 ∙ z);
      in_pad = λ z i lt. is_in_pad _ ram m (each pad_mapped pad_base pad_end a n pad_top f (omega arith) s.1 l i lt);
    }
at_only (Err u) a n ram pad e f m ok h = absurd (omega arith)

part_only : (b : Bool) (a n ram pad : ℕ) → good_lengths ram pad ≡ b → a < 0x1_0000_0000 → 0 < (cond b (part_at (segment_of a ram) n ram) nothing).length → NotEmpty (cond b (part_at (segment_of a ram) n ram) nothing) a n ram pad
part_only true a n ram pad e f h = at_only (segment_of a ram) a n ram pad refl f (good ram pad e).most e h
part_only false a n ram pad e f h = absurd (omega arith)

all_ram : (a n len : ℕ) → AllInRam a n len → AllIn mapped 0 len a n
all_ram a n len all i lt = (in_ram _ len _ (all i lt)).1

all_pad : (a n len : ℕ) → AllInPad a n len → AllIn pad_mapped pad_base pad_end a n
all_pad a n len all i lt = (in_pad_lem _ len _ (all i lt)).1

left_in_pad : (x : ℕ) → pad_base ≤ x → pad_length - (x - pad_base) ≡ pad_end - x
left_in_pad x h = omega arith

-- the window of a virtual address of 32 bits is what is asked
pub window_exact : (a n ram pad : ℕ) → a < 0x1_0000_0000 → WindowExact a n ram pad
unfolding part_of part_from
window_exact a n ram pad f =
    record {
      in_ram = λ some ok all.
          let u = all_ram a n ram all in
          let s = first mapped 0 ram a n f some u in
          rw (ok, is_in_ram a ram s, le-leb _ _ (room mapped 0 ram a n (omega (arith, (good ram pad ok).most)) s.below u));
      in_pad = λ some ok all.
          let u = all_pad a n ram all in
          let s = first pad_mapped pad_base pad_end a n f some u in
          let l = room pad_mapped pad_base pad_end a n (omega arith) s.below u in
          rw (ok, is_in_pad a ram (good ram pad ok).most s, le-leb n (pad_length - (a % 0x2000_0000 - pad_base)) (rw (left_in_pad (a % 0x2000_0000) s.above) l));
      only = λ h. part_only (good_lengths ram pad) a n ram pad refl f h;
    }

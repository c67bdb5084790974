-- A place that an address has lies in its memory and keeps the address's alignment, and memory has room for what stands there.
use Prim.Native.Nat.{ℕ, ◌+◌, ◌-◌, ◌*◌, ◌/◌, ◌%◌, ◌<◌, ◌≤◌}
use mathlib.Core.Bool.{Bool, true, false, cond, ◌&&◌, and-eq-true_iff}
use mathlib.Core.List.{List}
use mathlib.Core.Path.{◌≡◌, refl, sym, ap, ◌∙◌}
use native.Mathlib.Omega.{arith}
use lib.Dec.{eqb, ltb, leb}
use lib.ListN.{length}
use borrow.Author.Tests.{eqb-true, eqb-false, ltb-true, leb-true, eq-eqb, lt-ltb, le-ltb}
use Rattle.memory.specs.Addresses.{ram_length, RamOk, mapped, physical_of, pad_base, pad_length, pad_mapped, in_pad, pad_at, beyond_ram, segment_of, place_of, word_in_ram, direct_of}
use Rattle.memory.specs.declared.addresses.Phys.{Phys}
use Rattle.memory.specs.declared.addresses.Place.{Place}
use Rattle.memory.specs.declared.addresses.Place.TheVariants.{Ram, Pad}
use Rattle.memory.specs.declared.addresses.Fault.{Fault}
use Rattle.memory.specs.declared.addresses.Fault.TheVariants.{Bus, Address}
use Rattle.std.specs.Prelude.{Option, Some, None, Result, Ok, Err}

-- ---- a test either way
either : {A : Type 0} (P : A → Type 0) (b : Bool) (x y : A) → (b ≡ true → P x) → (b ≡ false → P y) → P (cond b x y)
either P true x y f g = f refl
either P false x y f g = g refl

-- ---- the alignment of an address is that of its low 29 bits, and of its place in the pad
pub record Keeps (align : ℕ) : Type 0 where
  pub ram : (a : ℕ) → a % align ≡ 0 → a % 0x2000_0000 % align ≡ 0
  pub pad : (a : ℕ) → a % align ≡ 0 → (a % 0x2000_0000 - pad_base) % align ≡ 0

pub keeps_1 : Keeps 1
keeps_1 = record { ram = λ a h. omega arith; pad = λ a h. omega arith }

pub keeps_2 : Keeps 2
keeps_2 = record { ram = λ a h. omega arith; pad = λ a h. omega arith }

pub keeps_4 : Keeps 4
keeps_4 = record { ram = λ a h. omega arith; pad = λ a h. omega arith }

-- ---- beyond RAM is the pad, or nothing
pub record InPad (a : ℕ) (p : Phys) : Type 0 where
  pub is : p.0 ≡ a % 0x2000_0000
  pub reached : pad_mapped a ≡ true
  pub above : pad_base ≤ p.0
  pub below : p.0 < pad_base + pad_length

abbrev PadOrBus : ℕ → Result Place Fault → Type 0
PadOrBus a (Ok (Ram p)) = ⊥
PadOrBus a (Ok (Pad p)) = InPad a p
PadOrBus a (Err Bus) = Unit
PadOrBus a (Err Address) = ⊥

pad_is : (a : ℕ) → in_pad a ≡ true → InPad a (physical_of a)
unfolding in_pad
pad_is a e =
    let t = (and-eq-true_iff (pad_mapped a) _).0 e in
    let s = (and-eq-true_iff (leb pad_base (a % 0x2000_0000)) _).0 t.1 in
    record { is = refl; reached = t.0; above = leb-true _ _ s.0; below = ltb-true _ _ s.1 }

pad_or_bus : (a : ℕ) → PadOrBus a (beyond_ram a)
unfolding beyond_ram
pad_or_bus a = either (PadOrBus a) (in_pad a) _ _ (pad_is a) (λ i. tt)

pub not_ram : (a : ℕ) (p : Phys) → Ok (Ram p) ≡ beyond_ram a → ⊥
not_ram a p e = rw (← e) at (pad_or_bus a)

pub in_pad_lem : (a : ℕ) (p : Phys) → Ok (Pad p) ≡ beyond_ram a → InPad a p
in_pad_lem a p e = rw (← e) at (pad_or_bus a)

pub pad_aligned : (a align : ℕ) (p : Phys) → Keeps align → a % align ≡ 0 → InPad a p → pad_at p % align ≡ 0
pad_aligned a align p k h i = rw i.is (k.pad a h)

-- ---- what the place of an address tells
pub record InRam (a align len : ℕ) (p : Phys) : Type 0 where
  pub aligned : a % align ≡ 0
  pub is : p.0 ≡ a % 0x2000_0000
  pub reached : mapped a ≡ true
  pub below : p.0 < len

-- neither in RAM nor an address error
pub record Beyond (a align : ℕ) (q : Result Place Fault) : Type 0 where
  pub aligned : a % align ≡ 0
  pub is : q ≡ beyond_ram a

abbrev pub Tells : ℕ → ℕ → ℕ → Result Place Fault → Type 0
Tells a align len (Ok (Ram p)) = InRam a align len p
Tells a align len (Ok (Pad p)) = Beyond a align (Ok (Pad p))
Tells a align len (Err Bus) = Beyond a align (Err Bus)
Tells a align len (Err Address) = Unit

beyond_tells : (a align len : ℕ) → a % align ≡ 0 → (q : Result Place Fault) → q ≡ beyond_ram a → Tells a align len q
beyond_tells a align len h (Ok (Ram p)) e = absurd (not_ram a p e)
beyond_tells a align len h (Ok (Pad p)) e = record { aligned = h; is = e }
beyond_tells a align len h (Err Bus) e = record { aligned = h; is = e }
beyond_tells a align len h (Err Address) e = tt

pub segment_tells : (a align len : ℕ) → a % align ≡ 0 → Tells a align len (segment_of a len)
unfolding segment_of
segment_tells a align len h =
    either (Tells a align len) (mapped a && ltb (a % 0x2000_0000) len) _ _
    (λ e.
    let t = (and-eq-true_iff (mapped a) _).0 e in
    record { aligned = h; is = refl; reached = t.0; below = ltb-true _ len t.1 })
    (λ e. beyond_tells a align len h (beyond_ram a) refl)

pub place_tells : (a align : ℕ) (user : Bool) (len : ℕ) → Tells a align len (place_of a align user len)
unfolding place_of
place_tells a align user len =
    either (Tells a align len) (eqb (a % align) 0) _ _
    (λ e. either (Tells a align len) (user && leb 0x8000_0000 a) _ _ (λ u. tt) (λ u. segment_tells a align len (eqb-true _ 0 e)))
    (λ e. tt)

in_ram : (a align : ℕ) (user : Bool) (len : ℕ) (p : Phys) → place_of a align user len ≡ Ok (Ram p) → InRam a align len p
in_ram a align user len p e = rw e at (place_tells a align user len)

pub below : (a align : ℕ) (user : Bool) (len : ℕ) (p : Phys) → place_of a align user len ≡ Ok (Ram p) → p.0 < len
below a align user len p e = (in_ram a align user len p e).below

pub aligned : (a align : ℕ) (user : Bool) (len : ℕ) (p : Phys) → Keeps align → place_of a align user len ≡ Ok (Ram p) → p.0 % align ≡ 0
aligned a align user len p k e = let i = in_ram a align user len p e in rw i.is (k.ram a i.aligned)

-- ---- room in memory of whole words
abbrev pub Words : List ℕ → Type 0
Words m = length m % 4 ≡ 0

pub ram_words : (m : List ℕ) → RamOk m → Words m
unfolding ram_length
ram_words m ok = eqb-true _ 0 ((and-eq-true_iff _ _).0 ok).0

pub room_word : (m : List ℕ) (at : ℕ) → Words m → at < length m → at % 4 ≡ 0 → at + 4 ≤ length m
room_word m at w h e = omega arith

-- ---- one number that is a word's place in RAM, or above every length of RAM
abbrev pub index : ℕ → ℕ
index a = a % 0x8000_0000 / 4 + a % 0x8000_0000 % 4 * 0x4000_0000

pub short : (len : ℕ) → ram_length len ≡ true → len ≤ 2097152
unfolding ram_length
short len ok = leb-true len 2097152 ((and-eq-true_iff (leb 4 len) _).0 ((and-eq-true_iff (eqb (len % 4) 0) _).0 ok).1).1

in_kernel : (a : ℕ) (zero : Bool) → eqb (a / 0x2000_0000) 0 ≡ zero → a < 0x1_0000_0000 → a / 0x2000_0000 % 4 ≡ 0 → mapped a ≡ true
unfolding mapped
in_kernel a true e l h = rw e
in_kernel a false e l h =
    let n = eqb-false (a / 0x2000_0000) 0 e in
    let four : a / 0x2000_0000 ≡ 4 = omega arith in
    rw four

whole : (x n : ℕ) → x / 4 + x % 4 * 0x4000_0000 < n / 4 → n ≤ 2097152 → x % 4 ≡ 0
whole x n h l = omega arith

inside : (x n : ℕ) → x / 4 + x % 4 * 0x4000_0000 < n / 4 → x % 4 ≡ 0 → x < n
inside x n h d = omega arith

back : (x : ℕ) → x % 4 ≡ 0 → (x / 4 + x % 4 * 0x4000_0000) * 4 ≡ x
back x d = omega arith

by_four : (a : ℕ) → a % 0x8000_0000 % 4 ≡ 0 → a % 4 ≡ 0
by_four a d = omega arith

top : (a : ℕ) → a % 0x8000_0000 < 2097152 → a / 0x2000_0000 % 4 ≡ 0
top a l = omega arith

low : (a : ℕ) → a % 0x8000_0000 < 2097152 → a % 0x2000_0000 ≡ a % 0x8000_0000
low a l = omega arith

less : (x n k : ℕ) → x < n → n ≤ k → x < k
less x n k h l = omega arith

outside : (x n : ℕ) → n / 4 ≤ x / 4 + x % 4 * 0x4000_0000 → x % 4 ≡ 0 → n % 4 ≡ 0 → n ≤ x
outside x n h d w = omega arith

four_of : (a : ℕ) → a % 4 ≡ 0 → a % 0x8000_0000 % 4 ≡ 0
four_of a d = omega arith

-- where the number is below the count of RAM's words, the address is a word's in RAM
pub direct : (len a : ℕ) → ram_length len ≡ true → index a < len / 4 → Some (record { 0 = index a * 4 }) ≡ direct_of a len
unfolding word_in_ram
direct len a ok h =
    let n = short len ok in
    let d = whole (a % 0x8000_0000) len h n in
    let i = inside (a % 0x8000_0000) len h d in
    let u = less (a % 0x8000_0000) len 2097152 i n in
    rw (eq-eqb _ _ (by_four a d), lt-ltb _ _ i, low a u, back (a % 0x8000_0000) d)

-- where it is not, no such word stands there
elsewhere_by : (b : Bool) (len a : ℕ) → eqb (a % 4) 0 ≡ b → len % 4 ≡ 0 → len / 4 ≤ index a → None ≡ cond (b && ltb (a % 0x8000_0000) len) (Some (physical_of a)) None
elsewhere_by true len a e w h = rw (le-ltb _ _ (outside (a % 0x8000_0000) len h (four_of a (eqb-true _ 0 e)) w))
elsewhere_by false len a e w h = refl

pub elsewhere : (len a : ℕ) → ram_length len ≡ true → len / 4 ≤ index a → None ≡ direct_of a len
unfolding ram_length word_in_ram
elsewhere len a ok h = elsewhere_by (eqb (a % 4) 0) len a refl (eqb-true _ 0 ((and-eq-true_iff _ _).0 ok).0) h

-- the place of such a word, in kernel mode
placed_by : (b d : Bool) (len a : ℕ) (p : Phys) → eqb (a % 4) 0 ≡ b → ltb (a % 0x8000_0000) len ≡ d → len ≤ 2097152 → a < 0x1_0000_0000 → cond (b && d) (Some (physical_of a)) None ≡ Some p → place_of a 4 false len ≡ Ok (Ram p)
unfolding place_of segment_of
placed_by true true len a p e f n l h =
    let i = ltb-true _ len f in
    let u = less (a % 0x8000_0000) len 2097152 i n in
    let q : physical_of a ≡ p = cc in
    let g : ltb (a % 0x2000_0000) len ≡ true = rw (low a u) f in
    rw (e, in_kernel a (eqb (a / 0x2000_0000) 0) refl l (top a u), g) (ap (λ (x : Phys). Ok (Ram x)) q)
placed_by true false len a p e f n l h = cc
placed_by false d len a p e f n l h = cc

pub placed : (len a : ℕ) (p : Phys) (r : Option Phys) → ram_length len ≡ true → a < 0x1_0000_0000 → r ≡ direct_of a len → r ≡ Some p → place_of a 4 false len ≡ Ok (Ram p)
unfolding word_in_ram
placed len a p r ok l e h = placed_by (eqb (a % 4) 0) (ltb (a % 0x8000_0000) len) len a p refl refl (short len ok) l (sym e ∙ h)

-- What the test of an image accepts.
use Prim.Native.Nat.{ℕ, ◌≤◌}
use mathlib.Core.Bool.{Bool, true, false, and-eq-true_iff}
use mathlib.Core.List.{List}
use mathlib.Core.Path.{◌≡◌, refl}
use lib.Dec.{eqb, leb}
use lib.ListN.{get_or}
use borrow.Author.Tests.{eqb-true, eq-eqb, leb-true, le-leb}
use Rattle.std.proofs.lemmas.Slice.Eq.{bytes_eq-Decides}
use Rattle.gte_registers.specs.Registers.{reads, view, WellFormed}
use Rattle.image.specs.Formed.{only, implies, pending_formed, system_formed, control_formed, geometry_formed, formed}

-- ---- the test, taken apart: r are words 0..31, w words 32..43, g words 44..107
pub record Formed (r w g : List ℕ) : Type 0 where
  pub zero : get_or r 0 0 ≡ 0
  pub register : get_or w 4 0 ≤ 31
  pub value : get_or w 4 0 ≡ 0 → get_or w 5 0 ≡ 0
  pub slot : get_or w 6 0 ≤ 1
  pub last : get_or w 11 0 ≡ 0
  pub sr : only 0xf24f_ff3f (get_or w 7 0) ≡ true
  pub cause : only 0xb000_037c (get_or w 8 0) ≡ true
  pub geometry : WellFormed g

implied : (a b : Bool) → implies a b ≡ true → a ≡ true → b ≡ true
implied true b h e = h
implied false b h e = cc

pub formed_in : (r w g : List ℕ) → formed r w g ≡ true → Formed r w g
unfolding formed control_formed pending_formed system_formed geometry_formed
formed_in r w g h =
    let a = (and-eq-true_iff (eqb (get_or r 0 0) 0) _).0 h in
    let b = (and-eq-true_iff (control_formed w) (geometry_formed g)).0 a.1 in
    let p = (and-eq-true_iff (pending_formed (get_or w 4 0) (get_or w 5 0)) _).0 b.0 in
    let q = (and-eq-true_iff (leb (get_or w 4 0) 31) _).0 p.0 in
    let s = (and-eq-true_iff (leb (get_or w 6 0) 1) _).0 p.1 in
    let t = (and-eq-true_iff (eqb (get_or w 11 0) 0) (system_formed (get_or w 7 0) (get_or w 8 0))).0 s.1 in
    let u = (and-eq-true_iff (only 0xf24f_ff3f (get_or w 7 0)) (only 0xb000_037c (get_or w 8 0))).0 t.1 in
    record {
      zero = eqb-true _ 0 a.0;
      register = leb-true _ 31 q.0;
      value = λ e. eqb-true _ 0 (implied _ _ q.1 (eq-eqb _ 0 e));
      slot = leb-true _ 1 s.0;
      last = eqb-true _ 0 t.0;
      sr = u.0;
      cause = u.1;
      geometry = (bytes_eq-Decides (reads g) g).0 b.1;
    }

implying : (x v : ℕ) → (x ≡ 0 → v ≡ 0) → implies (eqb x 0) (eqb v 0) ≡ true
implying x v f = by_test (eqb x 0) refl where
  by_test : (b : Bool) → eqb x 0 ≡ b → implies b (eqb v 0) ≡ true
  by_test true e = eq-eqb v 0 (f (eqb-true x 0 e))
  by_test false e = refl

pub formed_out : (r w g : List ℕ) → Formed r w g → formed r w g ≡ true
unfolding formed control_formed pending_formed system_formed geometry_formed
formed_out r w g f =
    rw (eq-eqb _ _ f.zero, le-leb _ _ f.register, implying _ _ f.value, le-leb _ _ f.slot, eq-eqb _ _ f.last, f.sr, f.cause) ((bytes_eq-Decides (reads g) g).1 f.geometry)

-- COP2 words that are well formed are what reads return of them
pub formed_view : (r w g : List ℕ) → formed r w g ≡ true → view g ≡ g
unfolding view
formed_view r w g h = (formed_in r w g h).geometry

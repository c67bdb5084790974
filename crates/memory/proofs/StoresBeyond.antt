-- Where RAM answers a store by a bus error, the address is beyond RAM, and RAM is as it was.
use mathlib.Core.Bool.{Bool}
use mathlib.Core.List.{List}
use mathlib.Core.Path.{◌≡◌, refl, sym, ◌∙◌}
use Prim.Native.Nat.{ℕ}
use Rattle.std.specs.Prelude.{Result, Ok, Err}
use Rattle.memory.specs.Addresses.{place_of}
use Rattle.memory.specs.declared.addresses.Place.{Place}
use Rattle.memory.specs.declared.addresses.Place.TheVariants as P
use Rattle.memory.specs.declared.addresses.Fault.{Fault}
use Rattle.memory.specs.declared.addresses.Fault.TheVariants.{Bus, Address}
use Rattle.memory.specs.Stores.{ram_store_of, ram_after}
use Rattle.memory.specs.declared.stores.StoreKind.{StoreKind}
use Rattle.memory.proofs.Places.{Beyond, Tells, place_tells}

pub record Passed (k : StoreKind) (ram : List ℕ) (x a align : ℕ) (q : Result Place Fault) : Type 0 where
  pub beyond : Beyond a align q
  pub kept : ram_after k ram x q ≡ ram

passed_at : (k : StoreKind) (ram : List ℕ) (x a align len : ℕ) (q : Result Place Fault) → Tells a align len q → ram_store_of q ≡ Err Bus → Passed k ram x a align q
passed_at k ram x a align len (Ok (P.Ram p)) t e = cc
passed_at k ram x a align len (Ok (P.Pad p)) t e = record { beyond = t; kept = refl }
passed_at k ram x a align len (Err Bus) t e = record { beyond = t; kept = refl }
passed_at k ram x a align len (Err Address) t e = cc

pub store_passed : (k : StoreKind) (ram : List ℕ) (x a align : ℕ) (user : Bool) (len : ℕ) (r : Result Unit Fault) → r ≡ ram_store_of (place_of a align user len) → r ≡ Err Bus → Passed k ram x a align (place_of a align user len)
store_passed k ram x a align user len r e b = passed_at k ram x a align len (place_of a align user len) (place_tells a align user len) (sym e ∙ b)

-- Where RAM answers a load by a bus error, the address is beyond RAM.
use mathlib.Core.Bool.{Bool}
use mathlib.Core.List.{List}
use mathlib.Core.Path.{◌≡◌, sym, ◌∙◌}
use Prim.Native.Nat.{ℕ}
use Rattle.std.specs.Prelude.{Result, Ok, Err}
use Rattle.memory.specs.Addresses.{place_of}
use Rattle.memory.specs.declared.addresses.Place.{Place}
use Rattle.memory.specs.declared.addresses.Place.TheVariants as P
use Rattle.memory.specs.declared.addresses.Fault.{Fault}
use Rattle.memory.specs.declared.addresses.Fault.TheVariants.{Bus, Address}
use Rattle.memory.specs.Loads.{ram_load_of}
use Rattle.memory.specs.declared.loads.LoadKind.{LoadKind}
use Rattle.memory.proofs.Places.{Beyond, Tells, place_tells}

beyond_at : (k : LoadKind) (ram : List ℕ) (old a align len : ℕ) (q : Result Place Fault) → Tells a align len q → ram_load_of k ram old q ≡ Err Bus → Beyond a align q
beyond_at k ram old a align len (Ok (P.Ram p)) t e = cc
beyond_at k ram old a align len (Ok (P.Pad p)) t e = t
beyond_at k ram old a align len (Err Bus) t e = t
beyond_at k ram old a align len (Err Address) t e = cc

pub load_passed : (k : LoadKind) (ram : List ℕ) (old a align : ℕ) (user : Bool) (len : ℕ) (r : Result ℕ Fault) → r ≡ ram_load_of k ram old (place_of a align user len) → r ≡ Err Bus → Beyond a align (place_of a align user len)
load_passed k ram old a align user len r e b = beyond_at k ram old a align len (place_of a align user len) (place_tells a align user len) (sym e ∙ b)

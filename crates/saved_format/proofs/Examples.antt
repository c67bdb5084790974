-- Numbers of refusal 7, from the laws: an empty file, and files that go wrong where the first block of RAM is to begin.
use mathlib.Core.List.{List, [], ◌∷◌, ◌++◌}
use mathlib.Core.Logic.{inl}
use mathlib.Core.Path.{◌≡◌, refl}
use Prim.Native.Nat.{ℕ, suc, ◌+◌}
use native.Mathlib.Omega.{arith}
use lib.ListN.{length}
use Rattle.saved_format.specs.Format.{field, MalformedFile}
use Rattle.saved_format.specs.Tails.{Content, Cut, Ram, Next, Geometry}
use Rattle.saved_format.proofs.Fields.{past_stops, cut_stops}
use Rattle.saved_format.proofs.Cuts.{cut_none, cut_tag, cut_high}
use Rattle.saved_format.proofs.Tails.{some_pad, some_geometry, ram_stops}
use Rattle.saved_format.specs.Theorems.{NoFile, NoBlock, LongBlock}
use Rattle.saved_format.proofs.Whole.{content, file_stops}

pub no_file : NoFile
no_file = file_stops [] 0 (cut_stops 1 176 176 (λ n. Geometry) [] 0 (λ n. some_geometry) (cut_none 1 176 176 (omega arith)))

module _ (c g : List ℕ) (control : Content 176 176 c) (geometry : Content 256 256 g) where
  -- the file is sound as far as the first block
  ram_malformed : (l : List ℕ) (k : ℕ) → Cut 3 1 32768 l k → MalformedFile (field 1 c ++ (field 2 g ++ l)) (438 + k)
  ram_malformed l k cut =
      let r = ram_stops l k (cut_stops 3 1 32768 Next l k (λ n. (some_pad.0, inl some_pad.1)) cut) in
      let a = past_stops 2 256 256 (λ n. Ram) _ g l k geometry refl r in
      let b = past_stops 1 176 176 (λ n. Geometry) _ c _ _ control refl a in
      let e : suc (suc (suc (length c + suc (suc (suc (length g + k)))))) ≡ 438 + k = omega (arith, control.least, control.most, geometry.least, geometry.most) in
      file_stops _ (438 + k) (rw e at b)

-- another tag than 3
pub no_block : NoBlock
no_block c g l tag e b d h n =
    ram_malformed c g (content 176 c e b) (content 256 g d h) (tag ∷ l) 0 (cut_tag 3 1 32768 tag l (omega arith) n)

-- a length that no block has: its lower byte is shared
pub long_block : LongBlock
long_block c g l lower upper e b d h k o =
    let n : ℕ = lower + 256 in
    ram_malformed c g (content 176 c e b) (content 256 g d h) (3 ∷ lower ∷ upper ∷ l) 2
    (cut_high 3 1 32768 lower n (omega arith) (omega arith) (omega arith) upper l (λ z a b d e. absurd (omega arith)))

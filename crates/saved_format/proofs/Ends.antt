-- A well-formed file with bytes behind it is none, and neither is one that is cut.
use mathlib.Core.List.{List, [], ◌∷◌, ◌++◌, append_assoc}
use mathlib.Core.Logic.{⊎_elim}
use mathlib.Core.Path.{◌≡◌, refl, ap, sym, ◌∙◌}
use Prim.Native.Nat.{ℕ, zero, suc, ◌<◌, ◌≤◌}
use native.Mathlib.Omega.{arith}
use lib.ListN.{length}
use Rattle.saved_format.specs.Format.{field, Machine, Means, WellFormedFile, Share, nothing, byte}
use Rattle.saved_format.specs.Theorems.{CutShort, BytesBehind}
use Rattle.saved_format.proofs.Sharing.{share_length, share_same}
use Rattle.saved_format.proofs.Fields.{field_once}
use Rattle.saved_format.proofs.Blocks.{blocks_once}
use Rattle.saved_format.proofs.Tails.{cons_not}
use Rattle.saved_format.proofs.Deciding.{le_or_lt}

-- the fields of a file, with what stands behind it
spread : (a b c d e t : List ℕ) → (a ++ (b ++ (c ++ (d ++ e)))) ++ t ≡ a ++ (b ++ (c ++ (d ++ (e ++ t))))
spread a b c d e t = simp append_assoc

-- no well-formed file begins another one
alone : (f t : List ℕ) (m n : Machine) → Means f m → Means (f ++ t) n → t ≡ []
alone f t m n s w =
    let i = sym (spread (field 1 s.control) (field 2 s.geometry) s.blocks (field 4 m.pad) (field 0 []) t) ∙ ap (λ (x : List ℕ). x ++ t) (sym s.fields) ∙ w.fields in
    let a = field_once 1 s.control w.control _ _ i in
    let b = field_once 2 s.geometry w.geometry _ _ a.rest in
    let o = blocks_once s.ram_blocks w.ram_blocks _ _ refl refl b.rest in
    let p = field_once 4 m.pad n.pad _ _ o.1 in
    (field_once 0 [] [] t [] p.rest).rest

pub cut_short : CutShort
cut_short f t w h = (
  λ v. h (alone f t v.0 w.0 v.1 w.1),
  record { reached = (f ++ t, w, share_same f t); most = λ g k v s. share_length s },
)

-- a list that shares more than f with f and what follows it begins with f, and has more
record Beyond (f g : List ℕ) : Type 0 where
  more : List ℕ
  is : g ≡ f ++ more
  some : more ≡ [] → ⊥

front : {x : ℕ} {l g : List ℕ} {k : ℕ} → Share (x ∷ l) g (suc k) → (h : List ℕ) × (g ≡ x ∷ h) × Share l h k
front (byte {g = h} s) = (h, refl, s)

beyond : (f t : List ℕ) {g : List ℕ} (k : ℕ) → length f < k → Share (f ++ t) g k → Beyond f g
beyond f t zero h s = absurd (omega arith)
beyond [] [] (suc k) h s = let n = share_length s in absurd (omega arith)
beyond [] (y ∷ t) {g} (suc k) h s = let o = front s in record { more = g; is = refl; some = rw o.1 (cons_not y o.0) }
beyond (x ∷ f) t (suc k) h s =
    let o = front s in
    let b = beyond f t k (omega arith) o.2 in
    record { more = b.more; is = o.1 ∙ ap (λ (l : List ℕ). x ∷ l) b.is; some = b.some }

at_most : (f t g : List ℕ) (k : ℕ) → WellFormedFile f → WellFormedFile g → Share (f ++ t) g k → k ≤ length f
at_most f t g k w v s =
    ⊎_elim (λ h. h)
    (λ h. let b = beyond f t k h s in absurd (b.some (alone f b.more w.0 v.0 w.1 (rw b.is at v.1))))
    (le_or_lt k (length f))

share_all : (f t : List ℕ) → Share (f ++ t) f (length f)
share_all [] t = nothing
share_all (x ∷ f) t = byte (share_all f t)

pub bytes_behind : BytesBehind
bytes_behind f t w h = (
  λ v. h (alone f t w.0 v.0 w.1 v.1),
  record { reached = (f, w, share_all f t); most = λ g k v s. at_most f t g k w v s },
)

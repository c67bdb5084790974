-- Every list of bytes is a well-formed file, or a malformed one with its number.
use mathlib.Core.List.{List, [], ◌∷◌, ◌++◌}
use mathlib.Core.Logic.{◌⊎◌, inl, inr, ⊎_elim}
use mathlib.Core.Path.{◌≡◌, refl, ap}
use Prim.Native.Nat.{ℕ, zero, suc, ◌+◌, ◌-◌, ◌*◌, ◌%◌, ◌<◌, ◌≤◌}
use native.Mathlib.Omega.{arith}
use lib.ListN.{length, get_or, take, drop, length-append}
use Rattle.saved_format.specs.Format.{Bytes, field}
use Rattle.saved_format.specs.Tails.{Content, Field, Cut, Stops, Nothing, End, Pad, Ram, Next, Block, Geometry, File}
use Rattle.saved_format.specs.Theorems.{EveryFile}
use Rattle.saved_format.proofs.Deciding.{le_or_lt, same_or_not}
use Rattle.saved_format.proofs.Bytes.{bytes_tail, bytes_rest}
use Rattle.saved_format.proofs.Fields.{past_is, past_stops, cut_stops}
use Rattle.saved_format.proofs.Cuts.{cut_none, cut_tag, cut_one, cut_low, cut_two, cut_high, cut_short, past}
use Rattle.saved_format.proofs.Tails.{nothing_stops, some_nothing, some_end, some_pad, some_ram, some_geometry, to_ram, pad_stops, block_stops, ram_stops}
use Rattle.saved_format.proofs.Whole.{from_file, file_stops}

-- ---- a field at the front of a list, or where it goes wrong
pub record Front (tag low high : ℕ) (l : List ℕ) : Type 0 where
  pub content : List ℕ
  pub rest : List ℕ
  pub fits : Content low high content
  pub is : l ≡ field tag content ++ rest

abbrev Begins : ℕ → ℕ → ℕ → List ℕ → Type 0
Begins tag low high l = Front tag low high l ⊎ ((k : ℕ) × Cut tag low high l k)

module _ (tag low high : ℕ) (range : low ≤ high) where
  -- the head is whole, and y and z are the bytes of its length
  sized : (y z : ℕ) (m : List ℕ) → y < 256 → Bytes m → low ≤ y + z * 256 → y + z * 256 ≤ high → Begins tag low high (tag ∷ y ∷ z ∷ m)
  sized y z m h b least most =
      let n : ℕ = y + z * 256 in
      ⊎_elim
      (λ k. let p = past tag low high y z n least most (omega arith) (omega arith) m b k in
      inl (record { content = take n m; rest = drop n m; fits = p.0; is = p.2 }))
      (λ k. inr (suc (suc (suc (length m))), cut_short tag low high y z n least most (omega arith) (omega arith) m b k))
      (le_or_lt n (length m))

  -- r is the least length with the lower byte
  upper : (y r : ℕ) (m : List ℕ) → y < 256 → low ≤ r → r ≤ high → r % 256 ≡ y → Bytes m → Begins tag low high (tag ∷ y ∷ m)
  upper y r [] h f t e b = inr (2, cut_two tag low high y r f t e)
  upper y r (z ∷ m) h f t e b =
      let high_cut = cut_high tag low high y r f t e z m in
      ⊎_elim
      (λ k. ⊎_elim
      (λ o. sized y z m h (bytes_tail b) k o)
      (λ o. inr (2, high_cut (λ n a d p q. let i : n ≡ y + z * 256 = omega arith in omega arith)))
      (le_or_lt (y + z * 256) high))
      (λ k. inr (2, high_cut (λ n a d p q. let i : n ≡ y + z * 256 = omega arith in omega arith)))
      (le_or_lt low (y + z * 256))

  lower : (m : List ℕ) → Bytes m → Begins tag low high (tag ∷ m)
  lower [] b = inr (1, cut_one tag low high range)
  lower (y ∷ m) b =
      let h : y < 256 = b.below 0 in
      let r : ℕ = low + (y + 256 - low % 256) % 256 in
      ⊎_elim
      (λ k. upper y r m h (omega arith) k (omega arith) (bytes_tail b))
      (λ k. inr (1, cut_low tag low high y m range (λ n a d e. omega arith)))
      (le_or_lt r high)

  pub begins : (l : List ℕ) → Bytes l → Begins tag low high l
  begins [] b = inr (0, cut_none tag low high range)
  begins (x ∷ m) b =
      ⊎_elim (λ e. rw e (lower m (bytes_tail b))) (λ n. inr (0, cut_tag tag low high x m range n)) (same_or_not x tag)

-- ---- a tail, or where it stops being one
abbrev Told : (List ℕ → Type 0) → List ℕ → Type 0
Told P l = P l ⊎ ((k : ℕ) × Stops P l k)

field_told : (tag low high : ℕ) (P : ℕ → List ℕ → Type 0) → low ≤ high → ((n : ℕ) → (t : List ℕ) × P n t) → (l : List ℕ) → Bytes l
    → ((c t : List ℕ) → l ≡ field tag c ++ t → Told (P (length c)) t) → Told (Field tag low high P) l
field_told tag low high P range some l b rest =
    ⊎_elim
    (λ f. ⊎_elim
    (λ p. inl (past_is tag low high P l f.content f.rest f.fits f.is p))
    (λ q. inr (suc (suc (suc (length f.content + q.0))), past_stops tag low high P l f.content f.rest q.0 f.fits f.is q.1))
    (rest f.content f.rest f.is))
    (λ q. inr (q.0, cut_stops tag low high P l q.0 some q.1))
    (begins tag low high range l b)

behind : (tag : ℕ) (l c t : List ℕ) → Bytes l → l ≡ field tag c ++ t → Bytes t
behind tag l c t b e = bytes_rest tag c t (rw e at b)

nothing_told : (l : List ℕ) → Told Nothing l
nothing_told [] = inl refl
nothing_told (x ∷ l) = inr (0, nothing_stops x l)

end_told : (l : List ℕ) → Bytes l → Told End l
end_told l b = field_told 0 0 0 (λ n. Nothing) (omega arith) (λ n. some_nothing) l b (λ c t e. nothing_told t)

pad_told : (l : List ℕ) → Bytes l → Told Pad l
pad_told l b = field_told 4 1024 1024 (λ n. End) (omega arith) (λ n. some_end) l b (λ c t e. end_told t (behind 4 l c t b e))

-- after a block of n bytes
next_told : (n : ℕ) (t : List ℕ) → Told Pad t → Told Ram t → Told (Next n) t
next_told n t p r =
    let as-pad : (n ≡ 32768 → get_or t 0 0 ≡ 3 → ⊥) → Told (Next n) t = λ h. ⊎_elim (λ x. inl (inl x)) (λ q. inr (q.0, pad_stops n t q.0 h q.1)) p in
    ⊎_elim
    (λ e. ⊎_elim (λ h. ⊎_elim (λ x. inl (inr (e, x))) (λ q. inr (q.0, block_stops n t q.0 e h q.1)) r) (λ h. as-pad (λ i. h)) (same_or_not (get_or t 0 0) 3))
    (λ e. as-pad (λ i. absurd (e i)))
    (same_or_not n 32768)

block_told : (l : List ℕ) → Told Block l → Told Ram l
block_told l b = ⊎_elim (λ p. inl (to_ram l p)) (λ q. inr (q.0, ram_stops l q.0 q.1)) b

shorter : (k : ℕ) (l c t : List ℕ) → length l ≤ suc k → l ≡ field 3 c ++ t → length t ≤ k
shorter k l c t h e = omega (arith, ap length e, length-append c t)

ram_told : (k : ℕ) (l : List ℕ) → length l ≤ k → Bytes l → Told Ram l
ram_told zero l h b =
    block_told l (field_told 3 1 32768 Next (omega arith) (λ n. (some_pad.0, inl some_pad.1)) l b (λ c t e. absurd (omega (arith, ap length e))))
ram_told (suc k) l h b =
    block_told l
    (field_told 3 1 32768 Next (omega arith) (λ n. (some_pad.0, inl some_pad.1)) l b
    (λ c t e. let d = behind 3 l c t b e in next_told (length c) t (pad_told t d) (ram_told k t (shorter k l c t h e) d)))

geometry_told : (l : List ℕ) → Bytes l → Told Geometry l
geometry_told l b =
    field_told 2 256 256 (λ n. Ram) (omega arith) (λ n. some_ram) l b (λ c t e. ram_told (length t) t (omega arith) (behind 2 l c t b e))

file_told : (l : List ℕ) → Bytes l → Told File l
file_told l b =
    field_told 1 176 176 (λ n. Geometry) (omega arith) (λ n. some_geometry) l b (λ c t e. geometry_told t (behind 1 l c t b e))

pub every_file : EveryFile
every_file f b = ⊎_elim (λ p. inl (from_file f p)) (λ q. inr (q.0, file_stops f q.0 q.1)) (file_told f b)

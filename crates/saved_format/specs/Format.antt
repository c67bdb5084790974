-- The file of a saved machine (02, Ticket 3): what it is, what it means, and what refusal 7 counts.
use Rattle.std.specs.Prelude.{List, [], ◌∷◌, ◌++◌, ◌≡◌, ℕ, zero, suc, ◌/◌, ◌%◌, ◌<◌, ◌≤◌, length, get_or}
use Rattle.byte_order.specs.Bytes.{words_at}

-- every element is a byte
pub record Bytes (f : List ℕ) : Type 0 where
  pub below : (i : ℕ) → get_or f i 0 < 256

-- ---- the fields

-- one-byte tag, two-byte little-endian length, content
abbrev pub field : ℕ → List ℕ → List ℕ
field tag content = tag ∷ length content % 256 ∷ length content / 256 ∷ content

-- RAM in one or more blocks of tag 3, in address order: each has 32,768 bytes but the last, which may be shorter and is not empty
pub data Blocks : List ℕ → List ℕ → Type 0 where
  last : (b : List ℕ) → 1 ≤ length b → length b ≤ 32768 → Blocks (field 3 b) b
  then : (b : List ℕ) {blocks ram : List ℕ} → length b ≡ 32768 → Blocks blocks ram → Blocks (field 3 b ++ blocks) (b ++ ram)

-- ---- what a file means

pub record Machine : Type 0 where
  -- image words 0..43
  pub control : List ℕ
  -- the 64 COP2 words
  pub geometry : List ℕ
  pub ram : List ℕ
  pub pad : List ℕ

abbrev pub machine : List ℕ → List ℕ → List ℕ → List ℕ → Machine
machine c g r p = record { control = c; geometry = g; ram = r; pad = p }

-- the file is well formed, and the machine is what it means
pub record Means (file : List ℕ) (m : Machine) : Type 0 where
  -- contents of the tags 1 and 2, and the blocks of tag 3
  pub control : List ℕ
  pub geometry : List ℕ
  pub blocks : List ℕ
  pub bytes : Bytes file
  -- in order; nothing follows tag 0
  pub fields : file ≡ field 1 control ++ (field 2 geometry ++ (blocks ++ (field 4 m.pad ++ field 0 [])))
  pub control_long : length control ≡ 176
  pub geometry_long : length geometry ≡ 256
  pub pad_long : length m.pad ≡ 1024
  pub control_words : m.control ≡ words_at control 0 44
  pub geometry_words : m.geometry ≡ words_at geometry 0 64
  pub ram_blocks : Blocks blocks m.ram

abbrev pub WellFormedFile : List ℕ → Type 0
WellFormedFile file = (m : Machine) × Means file m

-- ---- refusal 7 and its number

-- f and g begin with the same n bytes
pub data Share : List ℕ → List ℕ → ℕ → Type 0 where
  nothing : {f g : List ℕ} → Share f g zero
  byte : {b : ℕ} {f g : List ℕ} {n : ℕ} → Share f g n → Share (b ∷ f) (b ∷ g) (suc n)

-- n is the length of the longest beginning that f shares with some list of P
pub record Longest (P : List ℕ → Type 0) (f : List ℕ) (n : ℕ) : Type 0 where
  pub reached : (g : List ℕ) × P g × Share f g n
  pub most : (g : List ℕ) (k : ℕ) → P g → Share f g k → k ≤ n

abbrev pub MalformedFile : List ℕ → ℕ → Type 0
MalformedFile file n = (WellFormedFile file → ⊥) × Longest WellFormedFile file n

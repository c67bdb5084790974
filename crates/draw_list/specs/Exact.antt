-- What is proved of splits and of answers, for every list (02, Ticket 10).
use Rattle.std.specs.Prelude.{List, ◌++◌, ◌↔◌, ◌≡◌, ℕ, ◌<◌, ◌≤◌, length, take, drop, get_or}
use Rattle.draw_list.specs.Packets.{Unknown, told_by, Split, NoPacket, Answered}

-- a list has no two splits
abbrev pub OneSplit : Type 0
OneSplit = (ps qs : List (List ℕ)) (l : List ℕ) → Split ps l → Split qs l → ps ≡ qs

-- every list has an answer
abbrev pub EveryList : Type 0
EveryList = (l : List ℕ) → (code : ℕ) × (number : ℕ) × Answered l code number

-- and no two
abbrev pub OneAnswer : Type 0
OneAnswer = (l : List ℕ) (a b m n : ℕ) → Answered l a m → Answered l b n → (a ≡ b) × (m ≡ n)

-- accepted exactly when the whole list splits, with as many packets as the number says
pub record Accepted (l : List ℕ) (code number : ℕ) : Type 0 where
  pub splits : code ≡ 0 → (ps : List (List ℕ)) × Split ps l × (length ps ≡ number)
  pub always : (ps : List (List ℕ)) → Split ps l → (code ≡ 0) × (number ≡ length ps)

-- refused at a word of the list: the words before it split into packets, and no packet begins there; no packets at the beginning of the list
-- reach further. The code is 11 exactly when the word's top byte is unknown, else 12
pub record RefusedAt (l : List ℕ) (code number : ℕ) : Type 0 where
  pub within : number < length l
  pub before : (ps : List (List ℕ)) × Split ps (take number l)
  pub nothing : NoPacket (drop number l)
  pub furthest : (ps : List (List ℕ)) (m after : List ℕ) → Split ps m → m ++ after ≡ l → length m ≤ number
  pub byte : (code ≡ 11) ↔ (told_by (get_or l number 0) ≡ Unknown)
  pub else : (code ≡ 11 → ⊥) → code ≡ 12

-- an answer tells all of that, and nothing else that does is an answer
abbrev pub AnsweredExactly : Type 0
AnsweredExactly = (l : List ℕ) (code number : ℕ) → Answered l code number ↔ (Accepted l code number × ((code ≡ 0 → ⊥) → RefusedAt l code number))

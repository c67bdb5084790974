-- Whose an instruction is: the processor's or a coprocessor's (01 "One step").
use Rattle.std.specs.Prelude.{List, [], ◌∷◌, ℕ}
use Rattle.tables.specs.Table.{Row, ◌⇒◌, lookup}
use Rattle.cpu_decode.specs.declared.owners.Owner.{Owner}
use Rattle.cpu_decode.specs.declared.owners.Owner.TheVariants.{Processor, Coprocessor0, Coprocessor1, Coprocessor2, Coprocessor3}
use Rattle.cpu_decode.specs.Decode.{opcode}

-- ---- whose instruction it is, by the top six bits; where that coprocessor is not usable, CpU comes before RI
unfoldable pub owners : List (Row Owner)
owners =
    (0x10 ⇒ Coprocessor0) ∷ (0x11 ⇒ Coprocessor1) ∷ (0x12 ⇒ Coprocessor2) ∷ (0x13 ⇒ Coprocessor3) ∷ (0x31 ⇒ Coprocessor1)
    ∷ (0x32 ⇒ Coprocessor2) ∷ (0x33 ⇒ Coprocessor3) ∷ (0x39 ⇒ Coprocessor1) ∷ (0x3a ⇒ Coprocessor2) ∷ (0x3b ⇒ Coprocessor3) ∷ []

unfoldable pub owner_of : ℕ → Owner
owner_of word = lookup owners Processor (opcode word)

-- the number of a coprocessor, for CE in CAUSE; 0 for the processor
abbrev pub number_of : Owner → ℕ
number_of Processor = 0
number_of Coprocessor0 = 0
number_of Coprocessor1 = 1
number_of Coprocessor2 = 2
number_of Coprocessor3 = 3

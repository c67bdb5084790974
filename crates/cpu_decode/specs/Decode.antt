-- Which instruction a word encodes (01 "One step"; 000's opcode tables). Sixty-eight are listed; fields that an
-- instruction does not use are ignored, because no table reads them.
use Rattle.std.specs.Prelude.{cond, List, [], ◌∷◌, ℕ, ◌/◌, ◌%◌, eqb}
use Rattle.tables.specs.Table.{Row, ◌⇒◌, lookup}
use Rattle.cpu_decode.specs.declared.operations.Op.{Op}
use Rattle.cpu_decode.specs.declared.operations.Op.TheVariants.{Reserved, Sll, Srl, Sra, Sllv, Srlv, Srav, Jr, Jalr, Syscall, Break, Mfhi, Mthi, Mflo, Mtlo, Mult, Multu, Div, Divu, Add, Addu, Sub, Subu, And, Or, Xor, Nor, Slt, Sltu, Bltz, Bgez, Bltzal, Bgezal, J, Jal, Beq, Bne, Blez, Bgtz, Addi, Addiu, Slti, Sltiu, Andi, Ori, Xori, Lui, Lb, Lh, Lwl, Lw, Lbu, Lhu, Lwr, Sb, Sh, Swl, Sw, Swr, Mfc0, Mtc0, Rfe, Mfc2, Cfc2, Mtc2, Ctc2, Command, Lwc2, Swc2}

-- ---- the fields that choose
abbrev pub opcode : ℕ → ℕ
opcode word = word / 0x400_0000

abbrev pub rs : ℕ → ℕ
rs word = word / 0x20_0000 % 32

abbrev pub rt : ℕ → ℕ
rt word = word / 0x1_0000 % 32

abbrev pub funct : ℕ → ℕ
funct word = word % 64

-- ---- SPECIAL, by the low six bits
unfoldable pub specials : List (Row Op)
specials =
    (0x00 ⇒ Sll) ∷ (0x02 ⇒ Srl) ∷ (0x03 ⇒ Sra) ∷ (0x04 ⇒ Sllv) ∷ (0x06 ⇒ Srlv) ∷ (0x07 ⇒ Srav) ∷ (0x08 ⇒ Jr)
    ∷ (0x09 ⇒ Jalr) ∷ (0x0c ⇒ Syscall) ∷ (0x0d ⇒ Break) ∷ (0x10 ⇒ Mfhi) ∷ (0x11 ⇒ Mthi) ∷ (0x12 ⇒ Mflo) ∷ (0x13 ⇒ Mtlo)
    ∷ (0x18 ⇒ Mult) ∷ (0x19 ⇒ Multu) ∷ (0x1a ⇒ Div) ∷ (0x1b ⇒ Divu) ∷ (0x20 ⇒ Add) ∷ (0x21 ⇒ Addu) ∷ (0x22 ⇒ Sub)
    ∷ (0x23 ⇒ Subu) ∷ (0x24 ⇒ And) ∷ (0x25 ⇒ Or) ∷ (0x26 ⇒ Xor) ∷ (0x27 ⇒ Nor) ∷ (0x2a ⇒ Slt) ∷ (0x2b ⇒ Sltu) ∷ []

-- REGIMM, by rt
unfoldable pub conditions : List (Row Op)
conditions =
    (0x00 ⇒ Bltz) ∷ (0x01 ⇒ Bgez) ∷ (0x10 ⇒ Bltzal) ∷ (0x11 ⇒ Bgezal) ∷ []

-- COP0 and COP2 moves, by rs
unfoldable pub moves0 : List (Row Op)
moves0 =
    (0x00 ⇒ Mfc0) ∷ (0x04 ⇒ Mtc0) ∷ []

unfoldable pub moves2 : List (Row Op)
moves2 =
    (0x00 ⇒ Mfc2) ∷ (0x02 ⇒ Cfc2) ∷ (0x04 ⇒ Mtc2) ∷ (0x06 ⇒ Ctc2) ∷ []

-- Bit 25 set: COP0 has RFE alone, and every such COP2 word is a command. What is in no row is reserved, BC0, BC2 and the
-- TLB forms too.
unfoldable pub system_of : ℕ → Op
system_of word = cond (eqb (word / 0x200_0000 % 2) 1) (cond (eqb (funct word) 0x10) Rfe Reserved) (lookup moves0 Reserved (rs word))

unfoldable pub geometry_of : ℕ → Op
geometry_of word = cond (eqb (word / 0x200_0000 % 2) 1) Command (lookup moves2 Reserved (rs word))

-- by the top six bits; COP1 and COP3 forms, 30h and 38h are in no row
unfoldable pub primaries : List (Row Op)
primaries =
    (0x02 ⇒ J) ∷ (0x03 ⇒ Jal) ∷ (0x04 ⇒ Beq) ∷ (0x05 ⇒ Bne) ∷ (0x06 ⇒ Blez) ∷ (0x07 ⇒ Bgtz) ∷ (0x08 ⇒ Addi)
    ∷ (0x09 ⇒ Addiu) ∷ (0x0a ⇒ Slti) ∷ (0x0b ⇒ Sltiu) ∷ (0x0c ⇒ Andi) ∷ (0x0d ⇒ Ori) ∷ (0x0e ⇒ Xori) ∷ (0x0f ⇒ Lui)
    ∷ (0x20 ⇒ Lb) ∷ (0x21 ⇒ Lh) ∷ (0x22 ⇒ Lwl) ∷ (0x23 ⇒ Lw) ∷ (0x24 ⇒ Lbu) ∷ (0x25 ⇒ Lhu) ∷ (0x26 ⇒ Lwr)
    ∷ (0x28 ⇒ Sb) ∷ (0x29 ⇒ Sh) ∷ (0x2a ⇒ Swl) ∷ (0x2b ⇒ Sw) ∷ (0x2e ⇒ Swr) ∷ (0x32 ⇒ Lwc2) ∷ (0x3a ⇒ Swc2) ∷ []

unfoldable pub decode_of : ℕ → Op
decode_of word =
    lookup
    ((0x00 ⇒ lookup specials Reserved (funct word)) ∷ (0x01 ⇒ lookup conditions Reserved (rt word)) ∷ (0x10 ⇒ system_of word) ∷ (0x12 ⇒ geometry_of word) ∷ primaries)
    Reserved
    (opcode word)

-- What each instruction does, from its fields, its operands and the state before it (01 "One step").
use Rattle.std.specs.Prelude.{ℕ, ◌+◌, ◌-◌, ◌*◌, ◌/◌, ◌%◌, ◌^◌, Bool, cond, not, Option, None, Some, pos, ◌==◌, bit_and, bit_or, bit_xor, int_lt, nat_lt}
use Rattle.std.specs.Int.{w32}
use Rattle.std.proofs.Common.{to_z}
use Rattle.words.specs.Shifts.{sra_of}
use Rattle.cpu_alu.specs.Alu.{sum_of, difference_of, less_of}
use Rattle.cpu_alu.specs.MulDiv.{product_of, unsigned_product_of, quotient_of, unsigned_quotient_of}
use Rattle.cpu_alu.specs.declared.mul_div.HiLo.{HiLo}
use Rattle.memory.specs.declared.addresses.Virt.{Virt}
use Rattle.memory.specs.declared.loads.LoadKind.TheVariants as L
use Rattle.memory.specs.declared.stores.StoreKind.TheVariants as S
use Rattle.cpu_decode.specs.declared.operations.Op.{Op}
use Rattle.cpu_decode.specs.declared.operations.Op.TheVariants as O
use Rattle.cpu_decode.specs.declared.fields.Fields.{Fields}
use Rattle.cpu_execute.specs.declared.Effect.{Effect}
use Rattle.cpu_execute.specs.declared.Effect.TheVariants.{Write, Jump, Link, Product, Load, Store, Trap, ReadSystem, WriteSystem, Restore, ReadGeometry, WriteGeometry, Command, LoadGeometry, StoreGeometry}
use Rattle.cpu_alu.specs.Modular.{add, subtract, bit}

-- base plus offset
abbrev pub at : ℕ → Fields → Virt
at a f = record { 0 = add a f.extended }

-- the signed result, or a trap that writes nothing
abbrev pub or_trap : ℕ → Option ℕ → Effect
or_trap r (Some v) = Write r v
or_trap r None = Trap 12

-- ---- branches and jumps start from next PC
abbrev pub negative_of : ℕ → Bool
negative_of a = int_lt (to_z w32 a) (pos 0)

abbrev pub positive_of : ℕ → Bool
positive_of a = int_lt (pos 0) (to_z w32 a)

unfoldable pub target_of : Bool → ℕ → ℕ → ℕ
target_of taken next offset = cond taken (add next offset) (add next 4)

abbrev pub region : ℕ → ℕ
region next = next / 0x1000_0000 * 0x1000_0000

-- ---- a is the value of rs and b that of rt, h the multiplier's registers
unfoldable pub execute_of : Op → Fields → ℕ → ℕ → ℕ → HiLo → Effect
execute_of O.Reserved f a b next h = Trap 10
execute_of O.Sll f a b next h = Write f.rd (b * 2 ^ f.shift % 2 ^ 32)
execute_of O.Srl f a b next h = Write f.rd (b / 2 ^ f.shift)
execute_of O.Sra f a b next h = Write f.rd (sra_of b f.shift)
execute_of O.Sllv f a b next h = Write f.rd (b * 2 ^ (a % 32) % 2 ^ 32)
execute_of O.Srlv f a b next h = Write f.rd (b / 2 ^ (a % 32))
execute_of O.Srav f a b next h = Write f.rd (sra_of b a)
execute_of O.Jr f a b next h = Jump a
execute_of O.Jalr f a b next h = Link f.rd (add next 4) a
execute_of O.Syscall f a b next h = Trap 8
execute_of O.Break f a b next h = Trap 9
execute_of O.Mfhi f a b next h = Write f.rd h.hi
execute_of O.Mthi f a b next h = Product (record { hi = a; lo = h.lo })
execute_of O.Mflo f a b next h = Write f.rd h.lo
execute_of O.Mtlo f a b next h = Product (record { hi = h.hi; lo = a })
execute_of O.Mult f a b next h = Product (product_of a b)
execute_of O.Multu f a b next h = Product (unsigned_product_of a b)
execute_of O.Div f a b next h = Product (quotient_of a b)
execute_of O.Divu f a b next h = Product (unsigned_quotient_of a b)
execute_of O.Add f a b next h = or_trap f.rd (sum_of a b)
execute_of O.Addu f a b next h = Write f.rd (add a b)
execute_of O.Sub f a b next h = or_trap f.rd (difference_of a b)
execute_of O.Subu f a b next h = Write f.rd (subtract a b)
execute_of O.And f a b next h = Write f.rd (bit_and a b)
execute_of O.Or f a b next h = Write f.rd (bit_or a b)
execute_of O.Xor f a b next h = Write f.rd (bit_xor a b)
execute_of O.Nor f a b next h = Write f.rd (2 ^ 32 - 1 - bit_or a b)
execute_of O.Slt f a b next h = Write f.rd (less_of a b)
execute_of O.Sltu f a b next h = Write f.rd (bit (nat_lt a b))
execute_of O.Bltz f a b next h = Jump (target_of (negative_of a) next f.offset)
execute_of O.Bgez f a b next h = Jump (target_of (not (negative_of a)) next f.offset)
execute_of O.Bltzal f a b next h = Link 31 (add next 4) (target_of (negative_of a) next f.offset)
execute_of O.Bgezal f a b next h = Link 31 (add next 4) (target_of (not (negative_of a)) next f.offset)
execute_of O.J f a b next h = Jump (region next + f.target)
execute_of O.Jal f a b next h = Link 31 (add next 4) (region next + f.target)
execute_of O.Beq f a b next h = Jump (target_of (a == b) next f.offset)
execute_of O.Bne f a b next h = Jump (target_of (not (a == b)) next f.offset)
execute_of O.Blez f a b next h = Jump (target_of (not (positive_of a)) next f.offset)
execute_of O.Bgtz f a b next h = Jump (target_of (positive_of a) next f.offset)
execute_of O.Addi f a b next h = or_trap f.rt (sum_of a f.extended)
execute_of O.Addiu f a b next h = Write f.rt (add a f.extended)
execute_of O.Slti f a b next h = Write f.rt (less_of a f.extended)
execute_of O.Sltiu f a b next h = Write f.rt (bit (nat_lt a f.extended))
execute_of O.Andi f a b next h = Write f.rt (bit_and a f.immediate)
execute_of O.Ori f a b next h = Write f.rt (bit_or a f.immediate)
execute_of O.Xori f a b next h = Write f.rt (bit_xor a f.immediate)
execute_of O.Lui f a b next h = Write f.rt (f.immediate * 2 ^ 16)
execute_of O.Lb f a b next h = Load L.Byte f.rt (at a f)
execute_of O.Lh f a b next h = Load L.Half f.rt (at a f)
execute_of O.Lwl f a b next h = Load L.Left f.rt (at a f)
execute_of O.Lw f a b next h = Load L.Word f.rt (at a f)
execute_of O.Lbu f a b next h = Load L.ByteUnsigned f.rt (at a f)
execute_of O.Lhu f a b next h = Load L.HalfUnsigned f.rt (at a f)
execute_of O.Lwr f a b next h = Load L.Right f.rt (at a f)
execute_of O.Sb f a b next h = Store S.Byte b (at a f)
execute_of O.Sh f a b next h = Store S.Half b (at a f)
execute_of O.Swl f a b next h = Store S.Left b (at a f)
execute_of O.Sw f a b next h = Store S.Word b (at a f)
execute_of O.Swr f a b next h = Store S.Right b (at a f)
execute_of O.Mfc0 f a b next h = ReadSystem f.rt f.rd
execute_of O.Mtc0 f a b next h = WriteSystem f.rd b
execute_of O.Rfe f a b next h = Restore
execute_of O.Mfc2 f a b next h = ReadGeometry f.rt f.rd
execute_of O.Cfc2 f a b next h = ReadGeometry f.rt (f.rd + 32)
execute_of O.Mtc2 f a b next h = WriteGeometry f.rd b
execute_of O.Ctc2 f a b next h = WriteGeometry (f.rd + 32) b
execute_of O.Command f a b next h = Command f.word
execute_of O.Lwc2 f a b next h = LoadGeometry f.rt (at a f)
execute_of O.Swc2 f a b next h = StoreGeometry f.rt (at a f)

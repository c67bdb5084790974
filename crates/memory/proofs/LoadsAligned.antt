-- Every kind of load keeps the alignment of an address in its low 29 bits and in the pad.
use Rattle.memory.specs.Loads.{load_align}
use Rattle.memory.specs.declared.loads.LoadKind.{LoadKind}
use Rattle.memory.specs.declared.loads.LoadKind.TheVariants as L
use Rattle.memory.proofs.Places.{Keeps, keeps_1, keeps_2, keeps_4}

pub load_keeps : (k : LoadKind) → Keeps (load_align k)
load_keeps L.Byte = keeps_1
load_keeps L.ByteUnsigned = keeps_1
load_keeps L.Half = keeps_2
load_keeps L.HalfUnsigned = keeps_2
load_keeps L.Word = keeps_4
load_keeps L.Left = keeps_1
load_keeps L.Right = keeps_1

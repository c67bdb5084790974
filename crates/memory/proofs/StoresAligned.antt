-- Every kind of store keeps the alignment of an address in its low 29 bits and in the pad.
use Rattle.memory.specs.Stores.{store_align}
use Rattle.memory.specs.declared.stores.StoreKind.{StoreKind}
use Rattle.memory.specs.declared.stores.StoreKind.TheVariants as S
use Rattle.memory.proofs.Places.{Keeps, keeps_1, keeps_2, keeps_4}

pub store_keeps : (k : StoreKind) → Keeps (store_align k)
store_keeps S.Byte = keeps_1
store_keeps S.Half = keeps_2
store_keeps S.Word = keeps_4
store_keeps S.Left = keeps_1
store_keeps S.Right = keeps_1

-- The five parts are stored side by side.
use Prim.Native.Nat.{◌+◌}
use native.Mathlib.Omega.{arith}
use Rattle.saved.proofs.Places.{put_machine_is}
use Rattle.saved.proofs.put_machine.Goals as goal

pub returns : goal.returns
returns c = put_machine_is _ _ _ _ _ _ _ _ _ (438 + c.blocks_length-at.result) c.requires.lent.image_long c.requires.lent.ram_some c.requires.lent.pad_long (omega (arith, c.blocks_length-at.ensures)) c.put_field.ensures c.put_field-2.ensures c.put_blocks.ensures c.put_field-3.ensures c.put_field-4.ensures

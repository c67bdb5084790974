-- The copies fill the image and the pad, and the blocks RAM.
use Prim.Native.Nat.{◌+◌, ◌-◌}
use native.Mathlib.Omega.{arith}
use lib.ListN.{length}
use Rattle.saved.proofs.Places.{image_taken, pad_filled}
use Rattle.saved.proofs.take_machine.Goals as goal

pub returns-clause-image : goal.returns-clause-image
returns-clause-image c = image_taken c.args.image.now _ _ c.args.file.now c.copy.ensures c.copy-2.ensures c.requires.lent.image_long (omega (arith, c.requires.long))

pub returns-clause-pad : goal.returns-clause-pad
returns-clause-pad c = pad_filled c.args.pad.now _ c.args.file.now (441 + c.blocks_length-at.result) (length c.args.ram.now) ((441 + c.blocks_length-at.result) + 1024 - (441 + c.blocks_length-at.result)) (omega (arith, c.blocks_length-at.ensures)) (omega arith) c.requires.lent.pad_long c.requires.long c.copy-3.ensures

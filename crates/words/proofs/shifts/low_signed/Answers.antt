-- The signed reading of the low word is the wrap to 32 bits.
use Rattle.std.proofs.Common.{w32, to_z-of_z}
use borrow.Author.Rules.{sfits_of}
use Rattle.integers.specs.Bits.{to_z_mod}
use Rattle.words.proofs.shifts.low_signed.Goals as goal

pub returns : goal.returns
returns c = rw (to_z-of_z {w = w32} (sfits_of c.to_signed.type_inv), c.to_signed.ensures, c.low_word.ensures, to_z-of_z c.ranges.x) (to_z_mod w32 _)

-- The bits are the number's remainder by 2^64, and that one's remainder by 2^32 is the number's.
use Rattle.std.proofs.Common.{w64, to_z-of_z}
use lib.Dec.{lit<}
use Rattle.integers.specs.Bits.{of_z_mod}
use Rattle.integers.specs.Floor.{mod_mod}
use Rattle.words.proofs.shifts.low_word.Goals as goal

pub returns : goal.returns
returns c = rw (c.cast_unsigned.ensures, to_z-of_z c.ranges.x, of_z_mod w64 _ c.ranges.x) (mod_mod _ 4294967296 4294967296 (lit< tt) (lit< tt))

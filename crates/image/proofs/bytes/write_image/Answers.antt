-- The three rows fill the image.
use native.Mathlib.Omega.{arith}
use Rattle.image.proofs.Whole.{image_bytes}
use Rattle.image.proofs.bytes.write_image.Goals as goal

pub returns : goal.returns
returns c = rw (c.write_words-3.ensures, c.reads_of.ensures, c.write_words-2.ensures, c.control_words.ensures, c.write_words.ensures) (image_bytes _ _ _ _ (omega arith) (omega arith) (omega arith))

-- m has the first i words of src stored.
use Rattle.std.specs.Prelude.{◌≡◌, take}
use Rattle.byte_order.specs.Bytes.{set_words}
use Rattle.byte_order.proofs.write_words.Given as goal

abbrev pub invariant-loop-i : goal.invariant-loop-i
invariant-loop-i l = l.m ≡ set_words l.initial.m l.at (take l.i l.src)

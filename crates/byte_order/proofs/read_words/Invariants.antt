-- The first i words of dst are those read.
use Rattle.std.specs.Prelude.{◌≡◌, take}
use Rattle.byte_order.specs.Bytes.{words_at}
use Rattle.byte_order.proofs.read_words.Given as goal

abbrev pub invariant-loop-i : goal.invariant-loop-i
invariant-loop-i l = take l.i l.dst ≡ words_at l.m l.at l.i

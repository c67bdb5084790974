-- Each answer is one law of Calls; the attribute's lemmas answer the others.
use native.Mathlib.Omega.{arith}
use Rattle.saved.proofs.Calls.{save_unformed, save_short, save_done}
use Rattle.saved.proofs.save.Goals as goal

pub returns-then-not-words_formed : goal.returns-then-not-words_formed
returns-then-not-words_formed c = save_unformed _ _ _ _ c.in_ok-length_refusal.ensures _ c.words_formed.ensures c.if-not-words_formed.true

pub returns-then-space-n : goal.returns-then-space-n
returns-then-space-n c = save_short _ _ _ _ c.in_ok-length_refusal.ensures _ c.words_formed.ensures c.if-not-words_formed.false (record { below = λ i. omega (arith, c.type_inv.image i) }) (omega (arith, c.if-space-n.true, c.blocks_length-n.ensures))

pub returns : goal.returns
returns c = save_done _ _ _ _ c.in_ok-length_refusal.ensures _ c.words_formed.ensures c.if-not-words_formed.false (record { below = λ i. omega (arith, c.type_inv.image i) }) (omega (arith, c.if-space-n.false, c.blocks_length-n.ensures)) _ _ (omega (arith, c.blocks_length-n.ensures)) c.put_machine.ensures

-- Each answer is one law of Calls, for the machine that the file saves.
use Rattle.saved.proofs.Calls.{load_unformed, load_other, load_done}
use Rattle.saved.proofs.load_formed.Goals as goal

pub returns-then-not-words_formed : goal.returns-then-not-words_formed
returns-then-not-words_formed c = λ m s. load_unformed _ m s _ _ _ _ c.words_formed.ensures c.if-not-words_formed.true

pub returns-then-file-blocks_length : goal.returns-then-file-blocks_length
returns-then-file-blocks_length c = λ m s. load_other _ m s _ _ _ _ c.words_formed.ensures c.if-not-words_formed.false (λ e. c.if-file-blocks_length.true (rw c.blocks_length.ensures e))

pub returns : goal.returns
returns c = λ m s. load_done _ m s _ _ _ _ c.words_formed.ensures c.if-not-words_formed.false c.requires.lent.ram_some (rw c.blocks_length.ensures at c.if-file-blocks_length.false) _ _ _ c.take_machine.ensures.image c.take_machine.ensures.ram c.take_machine.ensures.pad

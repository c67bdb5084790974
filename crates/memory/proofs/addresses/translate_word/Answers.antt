-- A number below the count of RAM's words is the place of an aligned address, and any other is none.
use Rattle.memory.proofs.Places.{short, direct, elsewhere}
use borrow.Author.Rules.{rules}
use Rattle.memory.proofs.addresses.translate_word.Goals as goal

pub overflow_mul-result : goal.overflow_mul-result
overflow_mul-result c = let h = short _ c.requires in let t = c.if-k-len.true in search rules

pub returns-then-k-len-clause-is : goal.returns-then-k-len-clause-is
returns-then-k-len-clause-is c = rw c.word_index-k.ensures.is (direct _ _ c.requires (rw c.word_index-k.ensures.is at c.if-k-len.true))

pub returns-else-k-len-clause-is : goal.returns-else-k-len-clause-is
returns-else-k-len-clause-is c = elsewhere _ _ c.requires (rw c.word_index-k.ensures.is at c.if-k-len.false)

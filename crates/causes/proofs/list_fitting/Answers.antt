-- Nothing is written where the rows do not fit, and else all of them.
use Rattle.causes.proofs.Loop.{too_short, all_fit}
use Rattle.causes.proofs.list_fitting.Goals as goal

pub returns-then-words-n-clause-is : goal.returns-then-words-n-clause-is
returns-then-words-n-clause-is c = too_short _ _ _ c.count_words-n.ensures.is c.if-words-n.true

pub returns-clause-is : goal.returns-clause-is
returns-clause-is c = all_fit _ c.list_rows.ensures.is c.count_words-n.ensures.is c.if-words-n.false

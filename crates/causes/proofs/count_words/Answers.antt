-- What is counted is the length of the rows in words.
use Rattle.causes.proofs.Loop.{counted}
use Rattle.causes.proofs.count_words.Goals as goal

pub returns-clause-is : goal.returns-clause-is
returns-clause-is c = counted c.list_rows.ensures.is

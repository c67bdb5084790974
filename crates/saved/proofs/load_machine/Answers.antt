-- The code and the number are those of the result.
use Rattle.saved.proofs.load_machine.Goals as goal

pub returns : goal.returns
returns c = rw c.from.ensures c.load.ensures

-- The words that are taken over are those that are not plain, so all 64 are what reads return.
use Rattle.gte_registers.proofs.Taking.{all_taken}
use Rattle.gte_registers.proofs.view.reads_of.Goals as goal

pub returns : goal.returns
returns c = rw (c.take_controls.ensures, c.take_queues.ensures, c.take_inputs.ensures) (all_taken _ c.told-g)

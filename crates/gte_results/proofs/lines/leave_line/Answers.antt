-- The storage after the writes is the line left on the storage, and so on the words that reads return.
use Rattle.gte_results.specs.Effects.{line_left, flagged}
use Rattle.gte_results.proofs.LinesViews.{line_view}
use Rattle.gte_results.proofs.lines.leave_line.Goals as goal

pub returns : goal.returns
unfolding line_left flagged
returns c = rw c.store.ensures (line_view c.args.l c.args.c.now c.told-c)

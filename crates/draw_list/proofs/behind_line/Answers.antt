-- Two points that are none of 55555555h, and then the first one.
use native.Mathlib.Omega.{arith}
use Rattle.draw_list.proofs.Widths.{line_ends, unended}
use Rattle.draw_list.proofs.behind_line.Goals as goal

pub returns-then-stop-words : goal.returns-then-stop-words
returns-then-stop-words c = line_ends c.args.words.now c.args.at (omega arith) c.if-words-at-eq1431655765.false c.if-words-at-eq1431655765-2.false _ c.stop_from-stop.ensures (omega arith)

pub returns-else-stop-words : goal.returns-else-stop-words
returns-else-stop-words c = unended c.args.words.now c.args.at (omega arith) c.if-words-at-eq1431655765.false c.if-words-at-eq1431655765-2.false _ c.stop_from-stop.ensures (omega arith)

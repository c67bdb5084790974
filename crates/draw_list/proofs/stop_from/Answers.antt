-- What is passed has no 55555555h.
use Prim.Native.Nat.{◌+◌}
use mathlib.Core.Path.{refl}
use native.Mathlib.Omega.{arith}
use Rattle.draw_list.proofs.Widths.{points_hit, points_miss, points_none}
use Rattle.draw_list.proofs.stop_from.Goals as goal

pub returns-then-words-i-eq1431655765 : goal.returns-then-words-i-eq1431655765
returns-then-words-i-eq1431655765 c = omega (arith, points_hit c.args.words.now c.loop-i.i c.loop-i-test.true c.if-words-i-eq1431655765.true)

pub loop-i-preserved : goal.loop-i-preserved
loop-i-preserved c = omega (arith, points_miss c.args.words.now c.loop-i.i (c.loop-i.i + 1) refl c.loop-i-test.true c.if-words-i-eq1431655765.false)

pub returns : goal.returns
returns c = omega (arith, points_none c.args.words.now c.loop-i.i c.loop-i-test.false)

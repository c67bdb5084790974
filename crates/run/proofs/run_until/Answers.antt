-- After i turns the machine is where a search of i steps stands, and goes on.
use Rattle.std.proofs.Common.{arith, rules, true, false, refl, ◌∙◌}
use Rattle.memory.proofs.Lengths.{same}
use Rattle.run.proofs.Turns.{none, goes_on, over, stops}
use Rattle.run.proofs.run_until.Goals as goal

pub loop-i-init : goal.loop-i-init
loop-i-init c = record { below = search rules; long = same _; flag = c.is_clear-clear.ensures; run = none _ _ }

pub returns-in_default-clause-is : goal.returns-in_default-clause-is
returns-in_default-clause-is c = stops _ _ _ _ _ _ c.loop-i-test.true c.loop-i.invariant.run c.in_default.ensures

pub returns-then-rises-clause-is : goal.returns-then-rises-clause-is
returns-then-rises-clause-is c = over _ _ _ _ _ _ _ (omega arith) refl (goes_on _ _ _ _ _ true c.loop-i.invariant.run c.in-Ok.ensures (rw (← c.loop-i.invariant.flag, ← c.is_clear-after.ensures, ← c.rises.ensures) c.if-rises.true))

pub loop-i-preserved : goal.loop-i-preserved
loop-i-preserved c =
    record {
      below = omega arith;
      long = record { ram = c.step.auto.ram ∙ c.loop-i.invariant.long.ram; pad = c.step.auto.pad ∙ c.loop-i.invariant.long.pad };
      flag = c.is_clear-after.ensures;
      run = goes_on _ _ _ _ _ false c.loop-i.invariant.run c.in-Ok.ensures (rw (← c.loop-i.invariant.flag, ← c.is_clear-after.ensures, ← c.rises.ensures) c.if-rises.false);
    }

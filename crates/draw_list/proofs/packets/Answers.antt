-- The words that are read are packets, and their number is the count.
use Prim.Native.Nat.{◌+◌, ◌<◌}
use native.Mathlib.Omega.{arith}
use Rattle.draw_list.proofs.Splits.{Read, no_more, more, ends_at}
use Rattle.draw_list.proofs.packets.Goals as goal

pub returns-in_default : goal.returns-in_default
returns-in_default c = ends_at _ _ _ c.loop-at.invariant c.loop-at-test.true _ c.in_default.ensures c.refusal.ensures

pub overflow_add-count : goal.overflow_add-count
overflow_add-count c =
    let onto : Read c.args.words.now c.in-Some.next (c.loop-at.count + 1) × (c.loop-at.at < c.in-Some.next) = more _ _ _ c.loop-at.invariant c.loop-at-test.true _ c.in-Some.ensures in
    let r = onto in omega (arith, r.0.within, no_more _ _ _ r.0)

pub loop-at-smaller : goal.loop-at-smaller
loop-at-smaller c =
    let onto : Read c.args.words.now c.in-Some.next (c.loop-at.count + 1) × (c.loop-at.at < c.in-Some.next) = more _ _ _ c.loop-at.invariant c.loop-at-test.true _ c.in-Some.ensures in
    let r = onto in omega (arith, r.0.within, r.1)

-- Each arm leaves the storage that the definition of a write gives, and such a write is seen through the view.
use borrow.Author.Rules.{rules}
use mathlib.Core.Logic.{◌⊎◌, inl, inr}
use Prim.Native.Nat.{◌%◌}
use mathlib.Core.Path.{◌≡◌}
use native.Mathlib.Omega.{arith}
use Rattle.gte_registers.specs.Registers.{written}
use Rattle.gte_registers.proofs.Writing.{Other, seen_key, seen_ignored, seen_rest}
use Rattle.gte_registers.proofs.writes.write.Goals as goal

pub returns-in-7 : goal.returns-in-7
returns-in-7 c = seen_ignored _ _ _ c.told-c c.in-7.is

pub returns-in-15 : goal.returns-in-15
unfolding written
returns-in-15 c = seen_key _ _ _ 15 _ c.told-c c.in-15.is c.push_xy.ensures

pub returns-in-28 : goal.returns-in-28
unfolding written
returns-in-28 c = seen_key _ _ _ 28 _ c.told-c c.in-28.is c.spread_fields.ensures

pub returns-in_default : goal.returns-in_default
returns-in_default c =
    let kept : (c.args.i % 64 ≡ 7) ⊎ ((c.args.i % 64 ≡ 29) ⊎ (c.args.i % 64 ≡ 31)) → ⊥ = search rules in
    let other : Other (c.args.i % 64) = record { otz = λ e. kept (inl e); sxyp = omega arith; irgb = omega arith; orgb = λ e. kept (inr (inl e)); lzcr = λ e. kept (inr (inr e)) } in
    seen_rest _ _ _ _ c.told-c other c.put.ensures

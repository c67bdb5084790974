-- Where RAM answers a bus error, it is as it was, and the address is beyond it.
use mathlib.Core.Path.{ap, ◌∙◌}
use Rattle.std.specs.Prelude.{Err}
use Rattle.memory.proofs.StoresBeyond.{store_passed}
use Rattle.memory.proofs.stores.store.Goals as goal

pub store_beyond-requires-clause-k_value : goal.store_beyond-requires-clause-k_value
store_beyond-requires-clause-k_value c = let b = c.in-Err-Bus in let a = c.args in (store_passed a.k a.ram.now a.x _ _ _ _ _ c.store_ram.ensures.is (b.is ∙ ap Err b.field-0-is)).beyond.aligned

pub returns-in-Err-Bus-clause-is : goal.returns-in-Err-Bus-clause-is
returns-in-Err-Bus-clause-is c = let b = c.in-Err-Bus in let a = c.args in rw (store_passed a.k a.ram.now a.x _ _ _ _ _ c.store_ram.ensures.is (b.is ∙ ap Err b.field-0-is)).beyond.is c.store_beyond.ensures.is

pub returns-in-Err-Bus-clause-after : goal.returns-in-Err-Bus-clause-after
returns-in-Err-Bus-clause-after c = let b = c.in-Err-Bus in let a = c.args in
    let p = store_passed a.k a.ram.now a.x _ _ _ _ _ c.store_ram.ensures.is (b.is ∙ ap Err b.field-0-is) in
    rw (c.store_ram.ensures.after, p.kept, p.beyond.is) (c.store_beyond.ensures.after a.ram.now)

-- A part that is found at a place lies in its memory.
use mathlib.Core.Path.{sym, ap, ◌∙◌}
use Rattle.std.specs.Prelude.{Ok}
use Rattle.memory.specs.declared.addresses.Place.TheVariants.{Ram, Pad}
use Rattle.window.proofs.Bounds.{ram_place, pad_base_lem, pad_place, placed}
use Rattle.window.proofs.part_of.Goals as goal

pub part_from-requires : goal.part_from-requires
part_from-requires c = let i = c.in-Ok-Ram in ram_place _ _ _ (sym c.translate.ensures ∙ (i.is ∙ ap Ok i.field-0-is))

pub pad_place-requires : goal.pad_place-requires
pad_place-requires c = let i = c.in-Ok-Pad in pad_base_lem _ _ _ (sym c.translate.ensures ∙ (i.is ∙ ap Ok i.field-0-is))

pub part_from-requires-in-Ok-Pad : goal.part_from-requires-in-Ok-Pad
part_from-requires-in-Ok-Pad c = let i = c.in-Ok-Pad in rw c.pad_place.ensures (pad_place _ _ _ (sym c.translate.ensures ∙ (i.is ∙ ap Ok i.field-0-is)))

pub returns-in-Ok-Ram-clause-within : goal.returns-in-Ok-Ram-clause-within
returns-in-Ok-Ram-clause-within c = let i = c.in-Ok-Ram in
    (placed (Ok (Ram i.p)) _ _ _ _ _ (sym c.translate.ensures ∙ (i.is ∙ ap Ok i.field-0-is)) (sym c.good_lengths.ensures ∙ c.if-not-good_lengths.false) c.part_from.ensures).within

pub returns-in-Ok-Ram-clause-small : goal.returns-in-Ok-Ram-clause-small
returns-in-Ok-Ram-clause-small c = let i = c.in-Ok-Ram in let a = c.args in
    (placed (Ok (Ram i.p)) _ _ a.ram a.pad _ (sym c.translate.ensures ∙ (i.is ∙ ap Ok i.field-0-is)) (sym c.good_lengths.ensures ∙ c.if-not-good_lengths.false) c.part_from.ensures).small

pub returns-in-Ok-Pad-clause-within : goal.returns-in-Ok-Pad-clause-within
returns-in-Ok-Pad-clause-within c = let i = c.in-Ok-Pad in
    (placed (Ok (Pad i.p)) _ _ _ _ _ (sym c.translate.ensures ∙ (i.is ∙ ap Ok i.field-0-is)) (sym c.good_lengths.ensures ∙ c.if-not-good_lengths.false) (rw c.pad_place.ensures at c.part_from-in-Ok-Pad.ensures)).within

pub returns-in-Ok-Pad-clause-small : goal.returns-in-Ok-Pad-clause-small
returns-in-Ok-Pad-clause-small c = let i = c.in-Ok-Pad in let a = c.args in
    (placed (Ok (Pad i.p)) _ _ a.ram a.pad _ (sym c.translate.ensures ∙ (i.is ∙ ap Ok i.field-0-is)) (sym c.good_lengths.ensures ∙ c.if-not-good_lengths.false) (rw c.pad_place.ensures at c.part_from-in-Ok-Pad.ensures)).small

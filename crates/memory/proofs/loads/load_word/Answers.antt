-- A place that one test finds is the place; for the rest the tests stand in their order.
use lib.ListN.{length}
use Rattle.memory.specs.Loads.{read_of}
use Rattle.memory.specs.declared.loads.LoadKind.TheVariants.{Word}
use Rattle.memory.proofs.LoadsAligned.{load_keeps}
use Rattle.memory.proofs.Places.{below, aligned, ram_words, room_word, placed}
use Rattle.memory.proofs.loads.load_word.Goals as goal

pub word_at-requires : goal.word_at-requires
word_at-requires c = let e = placed (length c.args.ram.now) c.args.v.0 _ _ c.requires c.translate_word.ensures.word c.translate_word.ensures.is c.in-Some.is in room_word c.args.ram.now _ (ram_words c.args.ram.now c.requires) (below _ _ _ _ _ e) (aligned _ _ _ _ _ (load_keeps Word) e)

pub returns-in-Some : goal.returns-in-Some
unfolding read_of
returns-in-Some c = rw (c.if-user.false, placed (length c.args.ram.now) c.args.v.0 _ _ c.requires c.translate_word.ensures.word c.translate_word.ensures.is c.in-Some.is, c.word_at.ensures)

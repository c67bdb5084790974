-- What a write or a command leaves is what reads return of some words, and reads read alike when they are read again.
use mathlib.Core.List.{List}
use Rattle.std.specs.Prelude.{Result, Ok, Err}
use Prim.Native.Nat.{ℕ}
use Rattle.gte_registers.specs.Registers.{reads, WellFormed, write_of}
use Rattle.gte_registers.proofs.Views.{reads_reads}
use Rattle.gte.specs.Commands.{if_done, outcome_of, command_of}
use Rattle.gte.specs.declared.Unlisted.{Unlisted}
use Rattle.gte_laws.specs.Formed.{WriteFormed, CommandFormed}

pub write_formed : WriteFormed
unfolding write_of
write_formed w i x = reads_reads _

either : (o : Result (Unit {0}) Unlisted) (a w : List ℕ) → WellFormed w → WellFormed (if_done o (reads a) w)
either (Ok x) a w h = reads_reads a
either (Err e) a w h = h

pub command_formed : CommandFormed
unfolding command_of
command_formed word w h = either (outcome_of word) _ w h

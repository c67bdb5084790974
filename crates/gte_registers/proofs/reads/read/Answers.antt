-- Each arm is what the table of kinds says of its number, and a number with no arm is not in the table.
use mathlib.Core.Path.{refl}
use Rattle.tables.specs.Table.{NoneOf}
use Rattle.gte_arithmetic.specs.Checks.{flag_word}
use Rattle.gte_registers.specs.Registers.{kinds, short, half, read_of}
use Rattle.gte_registers.proofs.Reading.{at_key, at_word, at_rest}
use Rattle.gte_registers.proofs.reads.read.Goals as goal

pub returns-in-1 : goal.returns-in-1
unfolding kinds short half read_of NoneOf
returns-in-1 c = at_word _ _ 1 short c.in-1.is c.sign_extend_16.ensures refl

pub returns-in-3 : goal.returns-in-3
unfolding kinds short half read_of NoneOf
returns-in-3 c = at_word _ _ 3 short c.in-3.is c.sign_extend_16-in-3.ensures refl

pub returns-in-5 : goal.returns-in-5
unfolding kinds short half read_of NoneOf
returns-in-5 c = at_word _ _ 5 short c.in-5.is c.sign_extend_16-in-5.ensures refl

pub returns-in-7 : goal.returns-in-7
unfolding kinds short half read_of NoneOf
returns-in-7 c = at_word _ _ 7 half c.in-7.is c.zero_extend_16.ensures refl

pub returns-in-8 : goal.returns-in-8
unfolding kinds short half read_of NoneOf
returns-in-8 c = at_word _ _ 8 short c.in-8.is c.sign_extend_16-in-8.ensures refl

pub returns-in-9 : goal.returns-in-9
unfolding kinds short half read_of NoneOf
returns-in-9 c = at_word _ _ 9 short c.in-9.is c.sign_extend_16-in-9.ensures refl

pub returns-in-10 : goal.returns-in-10
unfolding kinds short half read_of NoneOf
returns-in-10 c = at_word _ _ 10 short c.in-10.is c.sign_extend_16-in-10.ensures refl

pub returns-in-11 : goal.returns-in-11
unfolding kinds short half read_of NoneOf
returns-in-11 c = at_word _ _ 11 short c.in-11.is c.sign_extend_16-in-11.ensures refl

pub returns-in-15 : goal.returns-in-15
unfolding kinds short half read_of NoneOf
returns-in-15 c = at_key _ _ 15 c.in-15.is refl

pub returns-in-16 : goal.returns-in-16
unfolding kinds short half read_of NoneOf
returns-in-16 c = at_word _ _ 16 half c.in-16.is c.zero_extend_16-in-16.ensures refl

pub returns-in-17 : goal.returns-in-17
unfolding kinds short half read_of NoneOf
returns-in-17 c = at_word _ _ 17 half c.in-17.is c.zero_extend_16-in-17.ensures refl

pub returns-in-18 : goal.returns-in-18
unfolding kinds short half read_of NoneOf
returns-in-18 c = at_word _ _ 18 half c.in-18.is c.zero_extend_16-in-18.ensures refl

pub returns-in-19 : goal.returns-in-19
unfolding kinds short half read_of NoneOf
returns-in-19 c = at_word _ _ 19 half c.in-19.is c.zero_extend_16-in-19.ensures refl

pub returns-in-28 : goal.returns-in-28
unfolding kinds short half read_of NoneOf
returns-in-28 c = at_key _ _ 28 c.in-28.is c.join_fields.ensures

pub returns-in-29 : goal.returns-in-29
unfolding kinds short half read_of NoneOf
returns-in-29 c = at_key _ _ 29 c.in-29.is c.join_fields-in-29.ensures

pub returns-in-31 : goal.returns-in-31
unfolding kinds short half read_of NoneOf
returns-in-31 c = at_key _ _ 31 c.in-31.is c.leading_bits.ensures

pub returns-in-36 : goal.returns-in-36
unfolding kinds short half read_of NoneOf
returns-in-36 c = at_word _ _ 36 short c.in-36.is c.sign_extend_16-in-36.ensures refl

pub returns-in-44 : goal.returns-in-44
unfolding kinds short half read_of NoneOf
returns-in-44 c = at_word _ _ 44 short c.in-44.is c.sign_extend_16-in-44.ensures refl

pub returns-in-52 : goal.returns-in-52
unfolding kinds short half read_of NoneOf
returns-in-52 c = at_word _ _ 52 short c.in-52.is c.sign_extend_16-in-52.ensures refl

pub returns-in-58 : goal.returns-in-58
unfolding kinds short half read_of NoneOf
returns-in-58 c = at_word _ _ 58 short c.in-58.is c.sign_extend_16-in-58.ensures refl

pub returns-in-59 : goal.returns-in-59
unfolding kinds short half read_of NoneOf
returns-in-59 c = at_word _ _ 59 short c.in-59.is c.sign_extend_16-in-59.ensures refl

pub returns-in-61 : goal.returns-in-61
unfolding kinds short half read_of NoneOf
returns-in-61 c = at_word _ _ 61 short c.in-61.is c.sign_extend_16-in-61.ensures refl

pub returns-in-62 : goal.returns-in-62
unfolding kinds short half read_of NoneOf
returns-in-62 c = at_word _ _ 62 short c.in-62.is c.sign_extend_16-in-62.ensures refl

pub returns-in-63 : goal.returns-in-63
unfolding kinds short half read_of NoneOf
returns-in-63 c = at_word _ _ 63 flag_word c.in-63.is c.flag_bits.ensures refl

pub returns-in_default : goal.returns-in_default
unfolding kinds short half read_of NoneOf
returns-in_default c = at_rest _ _ c.in_default.in_default-own.rest

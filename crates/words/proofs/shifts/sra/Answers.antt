-- The word is read as signed, shifted, and its bits taken.
use Rattle.std.proofs.Common.{◌^◌, ◌%◌, w32, to_z-of_z}
use borrow.Author.Rules.{sfits_of}
use mir.Val.{SFits}
use Rattle.integers.specs.Bound.{arg, fit, mag_shr}
use Rattle.words.specs.Shifts.{sra_of}
use Rattle.words.proofs.shifts.sra.Goals as goal

pub returns : goal.returns
unfolding sra_of
returns c =
    let f : SFits w32 c.to_signed.result = sfits_of c.to_signed.type_inv in
    rw (c.to_bits.ensures, to_z-of_z f, to_z-of_z (fit w32 (mag_shr (2 ^ (c.args.amount % 32)) (arg w32 f)) tt), c.to_signed.ensures)

-- The three cells, whose flags are those of the line's checks.
use borrow.Author.Rules.{rules}
use mathlib.Core.Path.{◌≡◌}
use mathlib.Core.Bool.{Bool}
use mir.Syntax.{w16, w32}
use mir.Val.{to_z, of_z}
use Rattle.gte_arithmetic.specs.Checks.{or, flags}
use Rattle.gte_arithmetic.specs.Values.{sum_flag}
use Rattle.gte_arithmetic.specs.Triples.{Wide}
use Rattle.gte_arithmetic.specs.declared.values.Line.{Line}
use Rattle.gte_arithmetic.proofs.Flags.{or_assoc, or_none}
use Rattle.gte_line.specs.Line.{cell_of, line_of, line_checks_at}
use Rattle.gte_line.specs.declared.Cell.{Cell}
use Rattle.gte_line.proofs.finish.Goals as goal

abbrev line : Cell → Cell → Cell → Line
line a b c = record { mac = record { x = a.mac; y = b.mac; z = c.mac }; ir = record { x = a.ir; y = b.ir; z = c.ir }; flag = or (or a.flag b.flag) c.flag }

joined : (sf lm : Bool) (s : Wide) (a b c : Cell)
    → a ≡ cell_of sf lm 0x4000_0000 0x800_0000 0x100_0000 s.x
    → b ≡ cell_of sf lm 0x2000_0000 0x400_0000 0x80_0000 s.y
    → c ≡ cell_of sf lm 0x1000_0000 0x200_0000 0x40_0000 s.z
    → line a b c ≡ line_of sf lm s
unfolding cell_of line_of line_checks_at flags sum_flag
joined sf lm s a b c p q r = rw (p, q, r) (simp (or_assoc, or_none))

-- a cell whose numbers are read back from their bits
abbrev read : Cell → Cell
read a = record { mac = to_z w32 (of_z w32 a.mac); ir = to_z w16 (of_z w16 a.ir); flag = a.flag }

pub returns : goal.returns
unfolding or
returns c =
    joined c.args.sf c.args.lm c.args.s (read c.finish_one-a.result) (read c.finish_one-b.result) (read c.finish_one-c.result)
    (search rules) (search rules) (search rules)

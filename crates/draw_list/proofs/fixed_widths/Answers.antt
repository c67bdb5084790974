-- The table and its definition compute to the same 256 bytes.
use mathlib.Core.Path.{refl}
use Rattle.draw_list.specs.Packets.{packets, shape_of}
use Rattle.draw_list.specs.Widths.{fixed_of, fixed_from}
use Rattle.draw_list.proofs.fixed_widths.Goals as goal

pub returns : goal.returns
unfolding packets shape_of fixed_of fixed_from
returns c = refl

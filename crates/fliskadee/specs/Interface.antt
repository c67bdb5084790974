-- The number of the interface that include/fliskadee.h describes: it rises with each change of a call's arguments.
use Rattle.std.specs.Prelude.{ℕ}

abbrev pub interface_number : ℕ
interface_number = 2

-- A part is read back from its number: its place and length are below 2^21.
use Prim.Native.Nat.{ℕ, ◌+◌, ◌*◌, ◌^◌, ◌≤◌}
use native.Mathlib.Omega.{arith}
use mathlib.Core.Bool.{Bool, true, false, cond}
use Rattle.window.specs.Window.{part_of}
use Rattle.window.proofs.Bounds.{part_inside}
use Rattle.fliskadee.specs.Parts.{part_number, PartRead}

read_by : (b : Bool) (at n : ℕ) → at + n ≤ 2097152 → PartRead (cond b (2 ^ 63) 0 + (at * 2 ^ 32 + n)) (record { pad = b; at = at; length = n })
read_by true at n h = record { pad = omega arith; place = omega arith; length = omega arith }
read_by false at n h = record { pad = omega arith; place = omega arith; length = omega arith }

-- whichever the part is, C's three numbers are it
pub part_read : (a n ram pad : ℕ) → PartRead (part_number (part_of a n ram pad)) (part_of a n ram pad)
part_read a n ram pad = let p = part_of a n ram pad in read_by p.pad p.at p.length (part_inside a n ram pad).small

-- A refusal's code is not that of a call that is not refused, and those up to 6 have no number.
use Prim.Native.Nat.{◌<◌, ◌≤◌}
use native.Mathlib.Omega.{arith}
use mathlib.Core.Path.{◌≡◌, refl}
use Rattle.answer.specs.Codes.{code_of, number_of}
use Rattle.answer.specs.declared.Refusal.{Refusal}
use Rattle.answer.specs.declared.Refusal.TheVariants as R

pub has_code : (e : Refusal) → 0 < code_of e
has_code R.ImageLength = omega arith
has_code R.ImageForm = omega arith
has_code R.RamLength = omega arith
has_code R.Count = omega arith
has_code R.Command = omega arith
has_code R.PadLength = omega arith
has_code (R.File n) = omega arith
has_code (R.Space n) = omega arith
has_code (R.UnknownPacket n) = omega arith
has_code (R.CutPacket n) = omega arith

pub no_number : (e : Refusal) → code_of e ≤ 6 → number_of e ≡ 0
no_number R.ImageLength h = refl
no_number R.ImageForm h = refl
no_number R.RamLength h = refl
no_number R.Count h = refl
no_number R.Command h = refl
no_number R.PadLength h = refl
no_number (R.File n) h = absurd (omega arith)
no_number (R.Space n) h = absurd (omega arith)
no_number (R.UnknownPacket n) h = absurd (omega arith)
no_number (R.CutPacket n) h = absurd (omega arith)

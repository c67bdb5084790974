-- Memory whose parts keep their lengths keeps what is asked of them.
use mathlib.Core.Path.{refl, ◌∙◌}
use Rattle.memory.specs.Memory.{Memory, MemoryOk, SameLengths}

pub same : (m : Memory) → SameLengths m m
same m = record { ram = refl; pad = refl }

pub then_same : (a b d : Memory) → SameLengths a b → SameLengths b d → SameLengths a d
then_same a b d x y = record { ram = x.ram ∙ y.ram; pad = x.pad ∙ y.pad }

pub still_ok : (m n : Memory) → SameLengths m n → MemoryOk n → MemoryOk m
still_ok m n x ok = record { ram = rw x.ram ok.ram; pad = x.pad ∙ ok.pad }

-- An accepted image describes a formed machine, and the image of a formed machine is accepted and describes it.
use Prim.Native.Nat.{ℕ}
use native.Mathlib.Omega.{arith}
use mathlib.Core.List.{List, ◌++◌}
use mathlib.Core.Path.{◌≡◌, refl, sym, ap, ◌∙◌}
use borrow.Author.Tests.{eqb-true, eq-eqb}
use lib.ListN.{length, length-append}
use Rattle.byte_order.specs.Bytes.{words_at}
use Rattle.byte_order.proofs.Rows.{length_bytes_of, length_words_at}
use Rattle.gte_registers.specs.Registers.{reads, WellFormed}
use Rattle.memory.specs.Memory.{Memory}
use Rattle.cpu_state.specs.State.{State}
use Rattle.image.specs.Image.{registers_in, control_in, geometry_in, control_words, machine_of, image_of}
use Rattle.image.proofs.Facts.{formed_in, formed_out}
use Rattle.image.proofs.Whole.{Back, back}
use Rattle.step_laws.specs.Formed.{StateFormed}
use Rattle.run_laws.specs.Runs.{Accepted, ImageDescribes}

reads_long : (w : List ℕ) → length (reads w) ≡ 64
unfolding reads
reads_long w = refl

pub geometry_long : (w : List ℕ) → WellFormed w → length w ≡ 64
geometry_long w h = ap length (sym h) ∙ reads_long w

-- ---- in
pub machine_formed : (m : List ℕ) (x : Memory) → Accepted m → StateFormed (machine_of m x)
machine_formed m x a =
    let f = formed_in (registers_in m) (control_in m) (geometry_in m) a.formed in
    record {
      registers = record { long = length_words_at m 0 32; zero = f.zero };
      pending = record { register = f.register; value = f.value };
      slot = f.slot;
      system = record { sr = eqb-true _ _ f.sr; cause = eqb-true _ _ f.cause };
      geometry = f.geometry;
    }

-- ---- and out
pub parts : (s : State) → StateFormed s → Back (image_of s) s.registers (control_words s.control) s.geometry 128 176
parts s g = back s.registers (control_words s.control) s.geometry 128 176 (omega (arith, g.registers.long)) refl

registers_back : (s : State) → StateFormed s → registers_in (image_of s) ≡ s.registers
registers_back s g = ap (words_at (image_of s) 0) (sym g.registers.long) ∙ (parts s g).first

control_back : (s : State) → StateFormed s → control_in (image_of s) ≡ control_words s.control
control_back s g = (parts s g).second

pub geometry_back : (s : State) → StateFormed s → geometry_in (image_of s) ≡ s.geometry
geometry_back s g = ap (words_at (image_of s) 176) (sym (geometry_long s.geometry g.geometry)) ∙ (parts s g).third

pub machine_back : (s : State) → StateFormed s → machine_of (image_of s) s.memory ≡ s
machine_back s g = rw (registers_back s g, control_back s g, geometry_back s g)

image_long : (s : State) → StateFormed s → length (image_of s) ≡ 432
image_long s g =
    let n = geometry_long s.geometry g.geometry in
    length_bytes_of (s.registers ++ (control_words s.control ++ s.geometry)) ∙ rw (length-append, length-append) (omega (arith, g.registers.long))

pub image_accepted : (s : State) → StateFormed s → Accepted (image_of s)
image_accepted s g =
    record {
      long = image_long s g;
      formed =
          rw (registers_back s g, control_back s g, geometry_back s g)
          (formed_out s.registers (control_words s.control) s.geometry
          (record {
            zero = g.registers.zero;
            register = g.pending.register;
            value = g.pending.value;
            slot = g.slot;
            last = refl;
            sr = eq-eqb _ _ g.system.sr;
            cause = eq-eqb _ _ g.system.cause;
            geometry = g.geometry;
          }));
    }

pub image_describes : ImageDescribes
image_describes s g = record { accepted = image_accepted s g; back = machine_back s g }

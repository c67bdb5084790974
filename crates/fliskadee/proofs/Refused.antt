-- What a refused call answers.
use Prim.Native.Nat.{ℕ}
use native.Mathlib.Omega.{arith}
use mathlib.Core.List.{List}
use mathlib.Core.Path.{◌≡◌, ap, sym, ◌∙◌}
use borrow.Author.Tests.{ne_eqb}
use Rattle.answer.specs.Codes.{code_of}
use Rattle.answer.specs.declared.Refusal.{Refusal}
use Rattle.answer.proofs.Codes.{has_code}
use Rattle.memory.specs.Memory.{Memory}
use Rattle.image.specs.Refusals.{refusal_of, refusal_after, image_refusal}
use Rattle.image.proofs.Refusals.{halves}
use Rattle.fliskadee.specs.Find.{answer, packed, find_of}

pub refused_is : (e : Refusal) (i : List ℕ) (m : Memory) (count mask : ℕ) → code_of e ≡ refusal_of i m count → answer (packed (code_of e) 0) i m ≡ find_of i m count mask
unfolding find_of
refused_is e i m count mask is = rw (← is, ne_eqb (code_of e) 0 (λ z. omega (arith, has_code e)))

-- the code that the two halves of the tests give is the call's
pub code_is : (code image : ℕ) (i : List ℕ) (m : Memory) (count : ℕ) → image ≡ image_refusal i → code ≡ refusal_after image m count → code ≡ refusal_of i m count
code_is code image i m count e h = h ∙ ap (λ (x : ℕ). refusal_after x m count) e ∙ sym (halves i m count)

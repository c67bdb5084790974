-- A refused call changes nothing; else the machine runs and its image is written.
use native.Mathlib.Omega.{arith}
use mathlib.Core.Path.{sym}
use Rattle.std.proofs.lemmas.Result.{err_from_is_err_and}
use Rattle.fliskadee.specs.Find.{find_of}
use Rattle.image.proofs.Refusals.{passed, accepted_first, machine_read}
use Rattle.fliskadee.proofs.Refused.{refused_is, code_is}
use Rattle.fliskadee.proofs.run_with.Goals as goal

pub returns-in_err-run_refusal-clause-is : goal.returns-in_err-run_refusal-clause-is
returns-in_err-run_refusal-clause-is c = let p = err_from_is_err_and c.from_residual.result c.from_residual.ensures.1 in
    rw (p.1, p.2) (refused_is _ _ _ _ _ (code_is _ _ _ _ _ c.read_image-a.ensures.refusal c.in_err-run_refusal.ensures))

pub run_until-d-requires : goal.run_until-d-requires
run_until-d-requires c = (passed _ _ _ (sym (code_is _ _ _ _ _ c.read_image-a.ensures.refusal c.in_ok-run_refusal.ensures))).memory

pub write_image-requires : goal.write_image-requires
write_image-requires c = (passed _ _ _ (sym (code_is _ _ _ _ _ c.read_image-a.ensures.refusal c.in_ok-run_refusal.ensures))).long

pub returns-clause-most : goal.returns-clause-most
returns-clause-most c = let h = (passed _ _ _ (sym (code_is _ _ _ _ _ c.read_image-a.ensures.refusal c.in_ok-run_refusal.ensures))).most in omega (arith, c.run_until-d.ensures.within)

pub returns-clause-is : goal.returns-clause-is
unfolding find_of
returns-clause-is c = let a = c.read_image-a.ensures in
    let z = sym (code_is _ _ _ _ _ a.refusal c.in_ok-run_refusal.ensures) in
    rw (z, ← machine_read _ _ _ _ _ a.control a.registers a.geometry (accepted_first _ _ _ z), ← c.run_until-d.ensures.is, c.write_image.ensures)

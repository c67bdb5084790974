-- Each answer is one of the cases of Loads.
use mathlib.Core.Path.{refl, sym}
use Rattle.std.proofs.lemmas.Result.{err_from_is_err_and}
use Rattle.saved_format.specs.Format.{WellFormedFile}
use Rattle.saved_check.specs.Check.{Checked}
use Rattle.saved.proofs.Places.{not_short}
use Rattle.saved.specs.Load.{malformed, means}
use Rattle.saved.proofs.Calls.{lent, load_refused}
use Rattle.saved.proofs.load.Goals as goal

pub returns-in_err-length_refusal : goal.returns-in_err-length_refusal
returns-in_err-length_refusal c = let p = err_from_is_err_and c.from_residual.result c.from_residual.ensures.1 in rw (p.1, p.2) (load_refused _ _ _ _ _ c.in_err-length_refusal.ensures)

pub load_formed-requires : goal.load_formed-requires
unfolding Checked
load_formed-requires c = let w : WellFormedFile c.args.file.now = c.in-Ok.ensures in
    record { lent = lent _ _ _ (sym c.in_ok-length_refusal.ensures); long = not_short _ w.0 w.1 }

pub returns-in-Ok : goal.returns-in-Ok
unfolding Checked
returns-in-Ok c = let w : WellFormedFile c.args.file.now = c.in-Ok.ensures in means (sym c.in_ok-length_refusal.ensures) w.0 w.1 (c.load_formed.ensures w.0 w.1)

pub returns-in-Err : goal.returns-in-Err
unfolding Checked
returns-in-Err c = malformed (sym c.in_ok-length_refusal.ensures) _ c.in-Err.ensures refl

-- Each way through the call is a code of the list.
use mathlib.Core.Path.{◌≡◌, sym, ◌∙◌, subst}
use mathlib.Core.List.{List}
use Prim.Native.Nat.{ℕ}
use Rattle.std.proofs.Common.{rules, Err}
use Rattle.image.proofs.Refusals.{words_of}
use Rattle.gte_rows.specs.Rows.{PartsWhole}
use Rattle.gte_causes.specs.Causes.{parts_at}
use Rattle.causes.proofs.Answers.{refused_image, not_listed, is_listed}
use Rattle.causes.proofs.listed_causes.Goals as goal

pub returns-in_err-read_geometry : goal.returns-in_err-read_geometry
returns-in_err-read_geometry c =
    let e : c.from_residual.result ≡ Err c.in_err-read_geometry.field-0.0 = search rules in
    rw e (refused_image _ _ _ _ c.in_err-read_geometry.ensures.is)

pub returns-then-not-is_listed : goal.returns-then-not-is_listed
returns-then-not-is_listed c =
    record { is = not_listed _ _ _ (sym c.in_ok-read_geometry.ensures.is) (sym c.is_listed.ensures ∙ c.if-not-is_listed.true); whole = λ k. search rules }

pub returns : goal.returns
returns c =
    let h = sym c.in_ok-read_geometry.ensures.is in
    let g = words_of _ _ _ _ c.in_ok-read_geometry.ensures.words h in
    record {
      is = c.list_fitting.ensures.is ∙ is_listed _ _ _ _ h (sym c.is_listed.ensures ∙ c.if-not-is_listed.false) g;
      whole = λ k. subst (λ (x : List ℕ). PartsWhole (parts_at c.args.word x)) g c.list_fitting.ensures.whole;
    }

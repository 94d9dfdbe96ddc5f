-- `unfit` tries 4, 5 and 9 in order.
use mathlib.Core.Path.{◌≡◌, sym, ap₂, ◌∙◌}
use mathlib.Core.Bool.{◌&&◌}
use borrow.Author.Rules.{rules}
use Rattle.std.proofs.Common.{Err}
use Rattle.terms.specs.declared.refusal.Refusal.TheVariants.{UnknownKind}
use Rattle.rules.proofs.LoadingLaws.{refused_action, refused_range, refused_same, unrefused}
use Rattle.rules.proofs.loading.unfit.Goals as goal

pub returns : goal.returns
returns c =
    unrefused _ _ c.in_ok-action.ensures (sym (ap₂ ◌&&◌ c.items_fit.ensures c.substitute_fits.ensures) ∙ c.if-not-items_fit-substitute_fits.false) (sym c.same_items.ensures ∙ c.if-same_items.false)

pub returns-in_err-action : goal.returns-in_err-action
returns-in_err-action c =
    let h = c.in_err-action.ensures in
    let e : c.from_residual.result ≡ Err UnknownKind = search rules in
    rw e (refused_action _ h.0)

pub returns-then-not-items_fit-substitute_fits : goal.returns-then-not-items_fit-substitute_fits
returns-then-not-items_fit-substitute_fits c =
    refused_range _ _ c.in_ok-action.ensures (sym (ap₂ ◌&&◌ c.items_fit.ensures c.substitute_fits.ensures) ∙ c.if-not-items_fit-substitute_fits.true)

pub returns-then-same_items : goal.returns-then-same_items
returns-then-same_items c =
    refused_same _ _ c.in_ok-action.ensures (sym (ap₂ ◌&&◌ c.items_fit.ensures c.substitute_fits.ensures) ∙ c.if-not-items_fit-substitute_fits.false) (sym c.same_items.ensures ∙ c.if-same_items.true)

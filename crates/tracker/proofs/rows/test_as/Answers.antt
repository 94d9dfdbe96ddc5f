-- The refusal of what is missing, where no row before it holds.
use mathlib.Core.Path.{sym, ◌∙◌}
use Rattle.std.proofs.Common.{rules}
use Rattle.tracker.proofs.Tests.{missing_first}
use Rattle.tracker.proofs.rows.test_as.Goals as goal

pub returns-in_err-test : goal.returns-in_err-test
returns-in_err-test c =
    let first = missing_first _ _ (sym c.fits.ensures ∙ c.if-not-fits.false) (sym c.holds.ensures ∙ c.if-holds.false) (sym c.holds-2.ensures ∙ c.if-holds-2.false) _ c.in_err-test.ensures in
    search rules

-- `load` refuses a rule, or stores it behind the others.
use mathlib.Core.Path.{◌≡◌}
use borrow.Author.Rules.{rules}
use Rattle.std.proofs.Common.{Err}
use Rattle.decision.specs.Answers.{loaded_by}
use Rattle.decision.proofs.LoadLaws.{rule_unfit, rule_full, rule_broken, rule_loaded, store_asks}
use Rattle.decision.proofs.inplace.load.Goals as goal

pub returns-in_err-unfit-clause-answers : goal.returns-in_err-unfit-clause-answers
unfolding loaded_by
returns-in_err-unfit-clause-answers c =
    let e : c.from_residual.result ≡ Err c.in_err-unfit.field-0.0 = search rules in
    rw e (rule_unfit _ _ _ c.in_err-unfit.ensures)

pub returns-then-k-ge-RULES-clause-answers : goal.returns-then-k-ge-RULES-clause-answers
unfolding loaded_by
returns-then-k-ge-RULES-clause-answers c = rule_full _ _ c.in_ok-unfit.ensures _ c.count-k.ensures c.if-k-ge-RULES.true

pub returns-then-breaks_now-clause-answers : goal.returns-then-breaks_now-clause-answers
unfolding loaded_by
returns-then-breaks_now-clause-answers c = rule_broken _ _ c.in_ok-unfit.ensures _ c.count-k.ensures c.if-k-ge-RULES.false _ c.breaks_now.ensures c.if-breaks_now.true

pub store-requires : goal.store-requires
store-requires c = store_asks c.args.m.now _ c.in_ok-unfit.ensures _ c.count-k.ensures c.if-k-ge-RULES.false

pub returns-clause-answers : goal.returns-clause-answers
unfolding loaded_by
returns-clause-answers c = rule_loaded _ _ c.in_ok-unfit.ensures _ c.count-k.ensures c.if-k-ge-RULES.false _ c.breaks_now.ensures c.if-breaks_now.false _ c.store.ensures

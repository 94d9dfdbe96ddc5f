-- `stop_in` inhibits, or diverts the write to the rule's substitute.
use native.Mathlib.Omega.{arith}
use mathlib.Core.Path.{◌≡◌, sym, ◌∙◌}
use lib.ListN.{length}
use Rattle.tracker.proofs.Facts.{process_lt}
use Rattle.decision.specs.Answers.{stopped_by}
use Rattle.decision.proofs.StopLaws.{writes, no_writes, stop_no_divert, stop_no_write, stop_not_used, stop_broken, stop_diverts}
use borrow.Author.Rules.{rules}
use Rattle.decision.proofs.inplace.stop_in.Goals as goal

pub returns-in_default-clause-answers : goal.returns-in_default-clause-answers
unfolding stopped_by
returns-in_default-clause-answers c = stop_no_write _ _ _ (no_writes c.args.q c.in_default.not-Write)

pub returns-then-action-clause-answers : goal.returns-then-action-clause-answers
unfolding stopped_by
returns-then-action-clause-answers c = stop_no_divert _ _ _ _ c.action.ensures c.if-action.true

pub returns-then-not-in_use-clause-answers : goal.returns-then-not-in_use-clause-answers
unfolding stopped_by
returns-then-not-in_use-clause-answers c = stop_not_used c.args.m.now _ _ _ c.substitute-to.ensures _ c.in_use.ensures c.if-not-in_use.true

pub overflow_add-own : goal.overflow_add-own
overflow_add-own c = omega (arith, process_lt c.requires.1)

pub returns-then-is_some-clause-answers : goal.returns-then-is_some-clause-answers
unfolding stopped_by
returns-then-is_some-clause-answers c =
    let m = c.args.m.now in
    let t = m.tracker in
    let long : length t.words ≡ 353 = search rules in
    stop_broken m _ _ _ c.substitute-to.ensures _ c.action.ensures c.if-action.false (writes c.args.q c.in-Write.is) _ c.in_use.ensures c.if-not-in_use.false long _ c.items.ensures _ (c.reach.ensures t.descriptors t.names) _ c.giving-plan.ensures _ c.judge.ensures (sym c.is_some.ensures ∙ c.if-is_some.true)

pub returns-clause-answers : goal.returns-clause-answers
unfolding stopped_by
returns-clause-answers c =
    let m = c.args.m.now in
    let t = m.tracker in
    let long : length t.words ≡ 353 = search rules in
    stop_diverts m _ _ _ c.substitute-to.ensures _ c.action.ensures c.if-action.false (writes c.args.q c.in-Write.is) _ c.in_use.ensures c.if-not-in_use.false long _ c.items.ensures _ (c.reach.ensures t.descriptors t.names) _ c.giving-plan.ensures _ c.judge.ensures (sym c.is_some.ensures ∙ c.if-is_some.false) _ _ c.make_items-gained.ensures

-- `admitted` makes a call that cannot give, or gives what no rule stops and makes the rest.
use mathlib.Core.Path.{◌≡◌, sym, ap, subst, ◌∙◌}
use lib.ListN.{length}
use Rattle.terms.specs.Calls.{asked}
use Rattle.tracker.specs.Rows.{Passes}
use Rattle.decision.specs.declared.Monitor.{Monitor}
use Rattle.decision.specs.View.{maps}
use Rattle.decision.specs.Answers.{Gives, stopped_by}
use Rattle.decision.proofs.CallLaws.{gives_nothing, allowed_call, stopped_call}
use Rattle.decision.proofs.VerdictLaws.{found_lt}
use borrow.Author.Rules.{rules}
use Rattle.decision.proofs.inplace.admitted.Goals as goal

pub returns-then-not-can_give-clause-answers : goal.returns-then-not-can_give-clause-answers
returns-then-not-can_give-clause-answers c =
    let m = c.args.m.now in
    let long : length m.tracker.words ≡ 353 = search rules in
    let named : length m.tracker.names ≡ 128 = search rules in
    allowed_call m _ long named c.requires _ _ (gives_nothing m _ long (sym c.can_give.ensures ∙ c.if-not-can_give.true) _ c.finish.ensures)

-- the rule is one of the 32, and the call passes on what was kept
pub stop_in-requires : goal.stop_in-requires
unfolding Gives
stop_in-requires c = (found_lt c.in-Err.ensures.stopped, subst (λ (x : Monitor). Passes (maps x) (asked c.args.q)) (sym c.in-Err.ensures.kept) c.requires)

pub returns-in-Ok-clause-answers : goal.returns-in-Ok-clause-answers
unfolding Gives
returns-in-Ok-clause-answers c =
    let m = c.args.m.now in
    let long : length m.tracker.words ≡ 353 = search rules in
    let named : length m.tracker.names ≡ 128 = search rules in
    allowed_call m _ long named c.requires _ _ c.in-Ok.ensures

pub returns-in-Some-clause-answers : goal.returns-in-Some-clause-answers
unfolding Gives stopped_by
returns-in-Some-clause-answers c =
    let m = c.args.m.now in
    let long : length m.tracker.words ≡ 353 = search rules in
    let named : length m.tracker.names ≡ 128 = search rules in
    stopped_call m _ long named c.requires _ _ c.in-Err.ensures _ c.in-Some.ensures.answers

pub returns-in-None-clause-answers : goal.returns-in-None-clause-answers
unfolding Gives stopped_by
returns-in-None-clause-answers c =
    let m = c.args.m.now in
    let long : length m.tracker.words ≡ 353 = search rules in
    let named : length m.tracker.names ≡ 128 = search rules in
    stopped_call m _ long named c.requires _ _ c.in-Err.ensures _ c.in-None.ensures.answers

-- the rules stay: what gives says so, and a call that is stopped stores items alone
pub returns-in-Ok-clause-rules : goal.returns-in-Ok-clause-rules
unfolding Gives
returns-in-Ok-clause-rules c = c.in-Ok.ensures.rules

pub returns-in-Some-clause-rules : goal.returns-in-Some-clause-rules
unfolding Gives
returns-in-Some-clause-rules c = c.stop_in.ensures.rules ∙ ap (λ (x : Monitor). x.rules) c.in-Err.ensures.kept

pub returns-in-None-clause-rules : goal.returns-in-None-clause-rules
unfolding Gives
returns-in-None-clause-rules c = c.stop_in.ensures.rules ∙ ap (λ (x : Monitor). x.rules) c.in-Err.ensures.kept

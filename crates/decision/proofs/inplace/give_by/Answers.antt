-- `give_by` plans a call, judges it and makes it.
use Rattle.decision.specs.Answers.{Gives}
use Rattle.decision.proofs.CallLaws.{gives_stopped, gives_made, passes_made}
use Rattle.decision.proofs.inplace.give_by.Goals as goal

pub plan-plan-requires : goal.plan-plan-requires
plan-plan-requires g c = c.requires

pub returns-in-Some : goal.returns-in-Some
unfolding Gives
returns-in-Some g c = gives_stopped c.args.m.now _ _ c.plan-plan.ensures _ c.in-Some.ensures

pub make-gained-requires : goal.make-gained-requires
make-gained-requires g c = (c.requires.0, c.requires.1, c.plan-plan.ensures)

pub finish-requires : goal.finish-requires
finish-requires g c = (passes_made c.args.m.now _ _ c.plan-plan.ensures _ _ c.make-gained.ensures c.requires.0, c.requires.1)

pub returns : goal.returns
unfolding Gives
returns g c = gives_made c.args.m.now _ _ c.plan-plan.ensures _ _ c.make-gained.ensures c.in_default.ensures _ c.finish.ensures

-- `give_by` makes the plan of a call, then the rest of it.
use mathlib.Core.Path.{ap, ◌∙◌}
use Rattle.store.specs.Maps.{Maps}
use Rattle.terms.specs.Calls.{asked}
use Rattle.tracker.specs.Worked.{finished}
use Rattle.tracker.specs.View.{view}
use Rattle.tracker.proofs.Joined.{gives_by_lem, still_passes}
use Rattle.tracker.proofs.calls.give_by.Goals as goal

pub finish-requires : goal.finish-requires
finish-requires g c =
    (still_passes _ c.requires.0 (gives_by_lem _ _ (asked c.args.q) _ _ c.plan-plan.ensures c.make-gained.ensures).0, c.requires.1)

pub returns : goal.returns
returns g c =
    let w = gives_by_lem (view c.args.t.now) (view c.make-gained.new.t) (asked c.args.q) _ _ c.plan-plan.ensures c.make-gained.ensures in
    record { made = c.finish.ensures ∙ ap (λ (x : Maps). finished x (asked c.args.q)) w.0; told = w.1 }

-- Both gifts of a map both are its plan.
use mathlib.Core.Path.{ap, sym, ◌∙◌}
use Rattle.store.specs.Maps.{gifts}
use Rattle.tracker.specs.View.{view}
use Rattle.tracker.proofs.Joined.{both_no_fork, gifts_alone, makes_plan}
use Rattle.terms.specs.Calls.{asked}
use Rattle.tracker.proofs.giving.ExchangeGiving.make.Goals as goal

pub returns : goal.returns
returns c =
    let t = c.args.t.now in
    let alone = gifts_alone (view t) (asked c.args.q) (both_no_fork _ c.requires.1) in
    makes_plan t.words t.descriptors t.names _ _ _ _ (ap gifts c.requires.2 ∙ alone ∙ sym c.requires.2) c.make_items.ensures

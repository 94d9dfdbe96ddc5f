-- The gift of a call that gives once is its plan.
use mathlib.Core.Path.{ap, sym, ◌∙◌}
use Rattle.store.specs.Maps.{gifts}
use Rattle.tracker.specs.View.{view}
use Rattle.tracker.proofs.Joined.{gifts_alone, makes_plan}
use Rattle.terms.specs.Calls.{asked}
use Rattle.tracker.proofs.giving.OnceGiving.make.Goals as goal

pub returns : goal.returns
returns c =
    let t = c.args.t.now in
    let alone = gifts_alone (view t) (asked c.args.q) c.requires.1.2 in
    makes_plan t.words t.descriptors t.names _ _ _ _ (ap gifts c.requires.2 ∙ alone ∙ sym c.requires.2) c.make_items.ensures

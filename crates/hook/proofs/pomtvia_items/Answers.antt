-- `pomtvia_items` asks the tracker.
use Rattle.decision.specs.View.{view}
use Rattle.rules.specs.Stored.{rules_of}
use Rattle.hook.proofs.CodeLaws.{given_by}
use Rattle.hook.proofs.pomtvia_items.Goals as goal

pub returns : goal.returns
unfolding view
returns c =
    let m = c.args.m.now in
    given_by _ _ (c.items_in.ensures m.tracker.descriptors m.tracker.names (rules_of m.rules.sets m.rules.fields)) _ _ _ c.give.ensures

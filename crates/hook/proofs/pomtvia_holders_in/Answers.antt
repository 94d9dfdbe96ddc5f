-- `pomtvia_holders_in` asks the tracker.
use Rattle.decision.specs.View.{view}
use Rattle.rules.specs.Stored.{rules_of}
use Rattle.hook.proofs.CodeLaws.{given_by}
use Rattle.hook.proofs.pomtvia_holders_in.Goals as goal

pub returns : goal.returns
unfolding view
returns c =
    let m = c.args.m.now in
    let h = c.holders_in.ensures m.tracker.descriptors m.tracker.names (rules_of m.rules.sets m.rules.fields) in
    record { given = given_by _ _ h.answer _ _ _ c.give.ensures; slice = h.slice }

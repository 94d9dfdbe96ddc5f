-- `met`: what is kept, and the gifts that go to the set.
use mir.Val.{Fits}
use mir.Syntax.{w64}
use borrow.Author.Rules.{rules}
use Rattle.sets.specs.Sets.{◌∪◌, ◌∩◌}
use Rattle.flow.specs.Links.{meets}
use Rattle.rules.proofs.MetLaws.{all_met}
use Rattle.rules.proofs.judging.met.Goals as goal

pub returns : goal.returns
unfolding ◌∪◌ ◌∩◌ meets
returns c =
    let e : Fits w64 c.args.plan.empty = search rules in
    all_met _ _ _ _ _ _ c.ranges.set.fits e.fits c.held-kept.ensures c.only_if.ensures c.only_if-2.ensures

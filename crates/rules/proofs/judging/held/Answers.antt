-- `held` gathers the items of the members of the set, the lowest first.
use mathlib.Core.Path.{◌≡◌}
use Rattle.sets.specs.Sets.{◌∪◌}
use Rattle.rules.proofs.Worklist.{gather_start, gather_end, gather_more}
use Rattle.rules.proofs.judging.held.Goals as goal

pub loop-v-init : goal.loop-v-init
loop-v-init c = let e : c.into_iter-v-iterator.result.left ≡ c.args.set = cc in rw e (gather_start _ _ c.ranges.set.fits)

pub loop-v-preserved : goal.loop-v-preserved
unfolding ◌∪◌
loop-v-preserved c =
    let taken = c.in-Some.ensures.steps in
    gather_more _ _ _ _ c.loop-v.invariant taken.0 _ taken.1 _ _ c.items-found.ensures taken.2

pub returns : goal.returns
returns c = gather_end _ _ _ _ c.loop-v.invariant c.in-None.ensures.steps.0

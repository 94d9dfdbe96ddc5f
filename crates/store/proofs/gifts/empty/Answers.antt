-- `empty` empties every container of the set.
use mathlib.Core.Path.{◌∙◌}
use Rattle.store.proofs.Worklist.{working_more, working_end, cleared_mapped}
use Rattle.store.proofs.gifts.empty.Goals as goal

pub loop-v-preserved : goal.loop-v-preserved
loop-v-preserved c =
    let taken = c.in-Some.ensures.steps in
    working_more _ c.loop-v.invariant taken.0 _ taken.1 _ _ c.empty_at.ensures taken.2

pub returns : goal.returns
returns c = working_end _ c.loop-v.invariant c.in-None.ensures.steps.0 ∙ cleared_mapped _ _

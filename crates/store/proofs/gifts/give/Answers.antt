-- `give` adds the items to every container of the set, and tells which lacked one.
use mathlib.Core.Path.{ap, ◌∙◌}
use mathlib.Core.Bool.{not}
use Rattle.store.proofs.Worklist.{working_more, working_end, given_mapped}
use Rattle.store.proofs.Gains.{keep_drops, keep_stays, lacking_given, lacking_end, given_nothing, nothing_gained}
use Rattle.store.proofs.gifts.give.Goals as goal

-- nothing is given
pub returns-then-x-eq0 : goal.returns-then-x-eq0
returns-then-x-eq0 c = let e = c.requires in (rw c.if-x-eq0.true (given_nothing _ _ e), rw c.if-x-eq0.true (nothing_gained _ _))

-- the container lacked nothing
pub loop-v-preserved-then-not-give_at : goal.loop-v-preserved-then-not-give_at
loop-v-preserved-then-not-give_at c =
    let i = c.loop-v.invariant in
    let taken = c.in-Some.ensures.steps in
    let given = c.give_at.ensures in (
      working_more _ i.0 taken.0 _ taken.1 _ _ given.0 taken.2,
      lacking_given i.1 i.0.small taken.0 _ taken.1 _ given.0 _ given.1 _ (c.without-lacked.ensures ∙ keep_drops _ _ _ (ap not c.if-not-give_at.true)) _ taken.2,
    )

-- it lacked one of the items
pub loop-v-preserved : goal.loop-v-preserved
loop-v-preserved c =
    let i = c.loop-v.invariant in
    let taken = c.in-Some.ensures.steps in
    let given = c.give_at.ensures in (
      working_more _ i.0 taken.0 _ taken.1 _ _ given.0 taken.2,
      lacking_given i.1 i.0.small taken.0 _ taken.1 _ given.0 _ given.1 _ (keep_stays _ _ _ (ap not c.if-not-give_at.false)) _ taken.2,
    )

pub returns : goal.returns
returns c = let i = c.loop-v.invariant in (working_end _ i.0 c.in-None.ensures.steps.0 ∙ given_mapped _ _ _, lacking_end i.1 c.in-None.ensures.steps.0)

-- `transpose` is six rounds. That the masks fit each distance is computed, column by column.
use mathlib.Core.Path.{refl, ap, ◌∙◌}
use borrow.Author.Rules.{rules}
use Rattle.sets.specs.Sets.{has}
use Rattle.flow.specs.Lists.{some_below}
use Rattle.transpose.specs.Rounds.{upper, unfit, shuffled}
use Rattle.transpose.proofs.Composition.{rounds, distances, exchanged}
use Rattle.transpose.proofs.transpose.Goals as goal

pub round-requires : goal.round-requires
unfolding unfit some_below upper has
round-requires c = (search rules, refl)

pub round-requires-2 : goal.round-requires-2
unfolding unfit some_below upper has
round-requires-2 c = (search rules, refl)

pub round-requires-3 : goal.round-requires-3
unfolding unfit some_below upper has
round-requires-3 c = (search rules, refl)

pub round-requires-4 : goal.round-requires-4
unfolding unfit some_below upper has
round-requires-4 c = (search rules, refl)

pub round-requires-5 : goal.round-requires-5
unfolding unfit some_below upper has
round-requires-5 c = (search rules, refl)

pub round-requires-6 : goal.round-requires-6
unfolding unfit some_below upper has
round-requires-6 c = (search rules, refl)

pub returns : goal.returns
unfolding rounds distances
returns c =
    c.round-6.ensures
    ∙ ap (shuffled 1) (c.round-5.ensures
    ∙ ap (shuffled 2) (c.round-4.ensures
    ∙ ap (shuffled 4) (c.round-3.ensures
    ∙ ap (shuffled 8) (c.round-2.ensures
    ∙ ap (shuffled 16) c.round.ensures))))
    ∙ exchanged _

-- `only_if` is by the truth value.
use mathlib.Core.Path.{sym}
use Rattle.flow.proofs.Bools.{chosen_l, chosen_r}
use Rattle.rules.specs.Judging.{only_if}
use Rattle.rules.proofs.judging.only_if.Goals as goal

pub returns-then-b : goal.returns-then-b
unfolding only_if
returns-then-b c = sym (chosen_l _ _ 0 c.if-b.true)

pub returns-else-b : goal.returns-else-b
unfolding only_if
returns-else-b c = sym (chosen_r _ _ 0 c.if-b.false)

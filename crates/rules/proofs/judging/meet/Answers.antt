-- `meet` tries the two items in both orders.
use mathlib.Core.Path.{refl, sym, ◌∙◌}
use Rattle.rules.specs.Judging.{meet}
use Rattle.rules.proofs.judging.meet.Goals as goal

pub returns-then-both : goal.returns-then-both
unfolding meet
returns-then-both c = c.if-both.true ∙ rw (sym c.both.ensures ∙ c.if-both.true) refl

pub returns-else-both : goal.returns-else-both
unfolding meet
returns-else-both c = c.both-else-both.ensures ∙ rw (sym c.both.ensures ∙ c.if-both.false) refl

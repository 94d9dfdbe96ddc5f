-- `same_items` asks of two items only.
use Rattle.flow.specs.Refusals.{same_items}
use Rattle.rules.proofs.LoadingLaws.{other_items}
use Rattle.rules.proofs.loading.same_items.Goals as goal

pub returns-in-Separate : goal.returns-in-Separate
unfolding same_items
returns-in-Separate c = rw c.in-Separate.is

pub returns-in_default : goal.returns-in_default
returns-in_default c = other_items _ c.in_default.not-Separate

-- `items_fit` goes by the condition.
use mathlib.Core.Logic.{inl, inr}
use Rattle.flow.specs.Refusals.{items_fit}
use Rattle.rules.proofs.loading.items_fit.Goals as goal

pub returns-in-Forbid : goal.returns-in-Forbid
unfolding items_fit
returns-in-Forbid c = elim c.in-Forbid.is [ inl e ↦ rw e.1 | inr e ↦ rw e.1 ]

pub returns-in-Separate : goal.returns-in-Separate
unfolding items_fit
returns-in-Separate c = rw c.in-Separate.is

-- `copy_of` is the row of a fork.
use native.Mathlib.Omega.{arith}
use mathlib.Core.Path.{refl}
use Rattle.sets.specs.Sets.{◌∪◌}
use Rattle.flow.specs.Calls.{fork, flow_by}
use Rattle.flow.specs.Refusals.{ranges}
use Rattle.store.specs.Maps.{view}
use Rattle.tracker.specs.Plans.{plan_of, plan_by, plan_for}
use Rattle.tracker.proofs.Facts.{process_lt, process_a, own_a}
use Rattle.tracker.proofs.plan.copy_of.Goals as goal

pub overflow_add-q : goal.overflow_add-q
unfolding ranges
overflow_add-q c = omega (arith, process_a c.requires.0 fork c.requires.1 refl)

pub returns : goal.returns
unfolding view ◌∪◌ plan_for plan_by plan_of flow_by ranges
returns c = rw (c.items.ensures, c.with-child.ensures, own_a c.requires.0 fork c.requires.1 refl, c.requires.1) refl

pub overflow_add-own : goal.overflow_add-own
overflow_add-own c = omega (arith, process_lt c.requires.0)

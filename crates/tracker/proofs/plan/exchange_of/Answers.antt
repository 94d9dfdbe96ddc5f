-- `exchange_of` is the row of a map both.
use native.Mathlib.Omega.{arith}
use mathlib.Core.Path.{refl}
use Rattle.flow.specs.Box.{descriptor}
use Rattle.flow.specs.Calls.{map_both, flow_by}
use Rattle.flow.specs.Refusals.{need_of}
use Rattle.store.specs.Maps.{view}
use Rattle.tracker.specs.Plans.{plan_by, plan_for}
use Rattle.tracker.proofs.Facts.{process_lt, leads_to}
use Rattle.tracker.proofs.plan.exchange_of.Goals as goal

pub exchanging-requires : goal.exchanging-requires
unfolding view need_of
exchanging-requires c =
    (rw c.descriptor-to.ensures (leads_to c.requires.0 map_both c.requires.1 refl), omega (arith, process_lt c.requires.0))

pub returns : goal.returns
unfolding view plan_for plan_by flow_by descriptor
returns c =
    let t = c.args.t.now in
    rw (c.exchanging.ensures t.descriptors t.names, c.descriptor-to.ensures, c.requires.1) refl

pub overflow_add-own : goal.overflow_add-own
overflow_add-own c = omega (arith, process_lt c.requires.0)

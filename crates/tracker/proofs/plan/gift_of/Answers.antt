-- `gift_of` is the table of flows of the calls that give once.
use native.Mathlib.Omega.{arith}
use mathlib.Core.Path.{refl, ap}
use mathlib.Core.Logic.{⊎_elim}
use Rattle.sets.specs.Sets.{◌∪◌}
use Rattle.flow.specs.Box.{descriptor}
use Rattle.flow.specs.Calls.{write, label, flow_by}
use Rattle.flow.specs.Refusals.{ranges, need_of}
use Rattle.store.specs.Maps.{view}
use Rattle.terms.specs.Kinds.{kind_in}
use Rattle.tracker.specs.Plans.{plan_of, plan_by, plan_for, gives_by}
use Rattle.tracker.proofs.Facts.{below64, process_lt, process_itself, container_a, item_b, leads_to}
use Rattle.tracker.proofs.plan.gift_of.Goals as goal

pub overflow_add-own : goal.overflow_add-own
overflow_add-own c = omega (arith, process_lt c.requires.0)

pub overflow_add-own-in-Write : goal.overflow_add-own-in-Write
overflow_add-own-in-Write c = omega (arith, process_lt c.requires.0)

pub returns-in-Read : goal.returns-in-Read
unfolding view ◌∪◌ plan_for plan_by plan_of flow_by descriptor
returns-in-Read c =
    let t = c.args.t.now in
    rw (c.giving.ensures, c.reach.ensures t.descriptors t.names, c.items.ensures, c.descriptor-to.ensures, process_itself c.requires.0)
    (⊎_elim (λ e. rw e refl) (λ e. rw e refl) c.in-Read.is)

pub returns-in-Write : goal.returns-in-Write
unfolding view ◌∪◌ plan_for plan_by plan_of flow_by descriptor need_of
returns-in-Write c =
    let t = c.args.t.now in
    rw (c.giving-in-Write.ensures, c.reach-in-Write.ensures t.descriptors t.names, c.items-in-Write.ensures, c.descriptor-to-in-Write.ensures, below64 (leads_to c.requires.0 write (ap kind_in c.in-Write.is) refl), c.in-Write.is) refl

pub returns-in-Label : goal.returns-in-Label
unfolding view ◌∪◌ plan_for plan_by plan_of flow_by ranges
returns-in-Label c =
    let t = c.args.t.now in
    let k = ap kind_in c.in-Label.is in
    rw (c.giving-in-Label.ensures, c.reach-in-Label.ensures t.descriptors t.names, c.with.ensures, below64 (container_a c.requires.0 label k refl), below64 (item_b c.requires.0 label k refl), c.in-Label.is) refl

-- no other kind gives once
pub returns-in_default : goal.returns-in_default
unfolding gives_by
returns-in_default c = absurd (let z : ⊥ = grind arith in z)

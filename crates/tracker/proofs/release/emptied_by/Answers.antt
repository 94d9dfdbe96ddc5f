-- `emptied_by` is the table of what a call empties.
use native.Mathlib.Omega.{arith}
use mathlib.Core.Path.{refl, sym, ◌∙◌}
use mathlib.Core.Logic.{⊎_elim}
use Rattle.flow.specs.Box.{descriptor}
use Rattle.flow.specs.Calls.{create, pipe, truncate}
use Rattle.flow.specs.Refusals.{ranges, need_of}
use Rattle.store.specs.Maps.{view}
use Rattle.store.proofs.Files.{container_set_low}
use Rattle.tracker.specs.Plans.{set_of, emptied_by, emptied_for}
use Rattle.tracker.proofs.Facts.{process_lt, slot_a, file_c, leads_to}
use Rattle.tracker.proofs.Finding.{fed_none, fed_some}
use Rattle.tracker.proofs.release.emptied_by.Goals as goal

pub overflow_add-result : goal.overflow_add-result
overflow_add-result c = omega (arith, process_lt c.requires)

pub returns-in-Start : goal.returns-in-Start
unfolding set_of emptied_for emptied_by
returns-in-Start c = rw c.in-Start.is (container_set_low _ (omega (arith, process_lt c.requires)))

pub returns-in-Create : goal.returns-in-Create
unfolding set_of emptied_for emptied_by ranges
returns-in-Create c =
    ⊎_elim (λ e. rw e (container_set_low _ (file_c c.requires create (rw e refl) refl))) (λ e. rw e (container_set_low _ (file_c c.requires pipe (rw e refl) refl))) c.in-Create.is

pub returns-then-is_fed : goal.returns-then-is_fed
unfolding view set_of emptied_for emptied_by descriptor ranges
returns-then-is_fed c =
    let t = c.args.t.now in
    let s = slot_a c.requires truncate (rw c.in-Truncate.is refl) refl in
    rw (c.in-Truncate.is, ← s, ← c.at_slot.ensures)
    (fed_none _ _ (sym (c.is_fed.ensures t.descriptors t.names) ∙ c.if-is_fed.true))

pub returns-else-is_fed : goal.returns-else-is_fed
unfolding view set_of emptied_for emptied_by descriptor ranges need_of
returns-else-is_fed c =
    let t = c.args.t.now in
    let s = slot_a c.requires truncate (rw c.in-Truncate.is refl) refl in
    let l = leads_to c.requires truncate (rw c.in-Truncate.is refl) refl in
    rw (c.in-Truncate.is, ← s, ← c.at_slot.ensures)
    (fed_some _ _ (rw (c.at_slot.ensures, s) l) (sym (c.is_fed.ensures t.descriptors t.names) ∙ c.if-is_fed.false))

-- the other kinds empty nothing
pub returns-in_default : goal.returns-in_default
unfolding set_of emptied_for emptied_by
returns-in_default c = grind arith

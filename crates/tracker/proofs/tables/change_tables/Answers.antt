-- `change_tables` is the table of calls, less the items.
use mathlib.Core.Path.{refl}
use mathlib.Core.Logic.{⊎_elim}
use Rattle.flow.specs.Box.{descriptor, name}
use Rattle.flow.specs.Calls.{open_name, create, unmap, unlink, rename, link, fork, with_descriptors, with_names, tables_by}
use Rattle.flow.specs.Refusals.{ranges}
use Rattle.store.specs.Maps.{view}
use Rattle.tracker.specs.Rows.{tables_for}
use Rattle.tracker.proofs.Facts.{process_lt, container_a, process_a, name_a, name_b, some_mapping}
use Rattle.tracker.proofs.tables.change_tables.Goals as goal

pub start-requires : goal.start-requires
start-requires c = process_lt c.requires

pub lower-requires : goal.lower-requires
unfolding ranges
lower-requires c =
    let t = c.args.t.now in
    (process_lt c.requires, container_a c.requires unmap (rw c.in-Unmap.is refl) refl, rw c.from.ensures (some_mapping t.words t.descriptors t.names _ c.requires (rw c.in-Unmap.is refl)))

pub fork-requires : goal.fork-requires
unfolding ranges
fork-requires c = (process_lt c.requires, process_a c.requires fork (rw c.in-Fork.is refl) refl)

pub exit-requires : goal.exit-requires
exit-requires c = process_lt c.requires

pub returns-in-Start : goal.returns-in-Start
unfolding tables_for tables_by
returns-in-Start c = let t = c.args.t.now in rw c.in-Start.is (c.start.ensures t.descriptors t.names)

pub returns-in-OpenName : goal.returns-in-OpenName
unfolding view with_descriptors tables_for tables_by name ranges
returns-in-OpenName c =
    rw (c.in-OpenName.is, c.set_descriptor.ensures, c.name-to.ensures, name_a c.requires open_name (rw c.in-OpenName.is refl) refl) refl

pub returns-in-Create : goal.returns-in-Create
unfolding view with_descriptors with_names tables_for tables_by ranges
returns-in-Create c =
    rw (c.in-Create.is, c.set_name.ensures, c.set_descriptor-in-Create.ensures, name_a c.requires create (rw c.in-Create.is refl) refl) refl

pub returns-in-Pipe : goal.returns-in-Pipe
unfolding view with_descriptors tables_for tables_by
returns-in-Pipe c = rw (c.in-Pipe.is, c.set_descriptor-in-Pipe-2.ensures, c.set_descriptor-in-Pipe.ensures) refl

pub returns-in-Device : goal.returns-in-Device
unfolding view with_descriptors tables_for tables_by
returns-in-Device c = rw (c.in-Device.is, c.set_descriptor-in-Device.ensures) refl

pub returns-in-Dup : goal.returns-in-Dup
unfolding view with_descriptors tables_for tables_by descriptor
returns-in-Dup c = rw (c.in-Dup.is, c.dup.ensures) refl

pub returns-in-Close : goal.returns-in-Close
unfolding view with_descriptors tables_for tables_by
returns-in-Close c = rw (c.in-Close.is, c.set_descriptor-in-Close.ensures) refl

pub returns-in-Unmap : goal.returns-in-Unmap
unfolding tables_for tables_by
returns-in-Unmap c = let t = c.args.t.now in rw (c.in-Unmap.is, ← c.from.ensures) (c.lower.ensures t.descriptors t.names)

pub returns-in-Unlink : goal.returns-in-Unlink
unfolding view with_names tables_for tables_by ranges
returns-in-Unlink c = rw (c.in-Unlink.is, c.set_name-in-Unlink.ensures, name_a c.requires unlink (rw c.in-Unlink.is refl) refl) refl

pub returns-in-Rename : goal.returns-in-Rename
unfolding view with_names tables_for tables_by name ranges
returns-in-Rename c =
    rw (c.in-Rename.is, c.rename.ensures, name_a c.requires rename (rw c.in-Rename.is refl) refl, name_b c.requires rename (rw c.in-Rename.is refl) refl) refl

pub returns-in-Link : goal.returns-in-Link
unfolding view with_names tables_for tables_by name ranges
returns-in-Link c =
    rw (c.in-Link.is, c.link.ensures, name_a c.requires link (rw c.in-Link.is refl) refl, name_b c.requires link (rw c.in-Link.is refl) refl) refl

pub returns-in-Fork : goal.returns-in-Fork
unfolding tables_for tables_by
returns-in-Fork c = rw c.in-Fork.is c.fork.ensures

pub returns-in-Exit : goal.returns-in-Exit
unfolding tables_for tables_by
returns-in-Exit c = rw c.in-Exit.is c.exit.ensures

pub returns-in-Read : goal.returns-in-Read
unfolding tables_for tables_by
returns-in-Read c = ⊎_elim (λ e. rw e refl) (⊎_elim (λ e. rw e refl) (⊎_elim (λ e. rw e refl) (λ e. rw e refl))) c.in-Read.is

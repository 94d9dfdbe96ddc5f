-- `lost_by` is the table of what a call may end the use of.
use native.Mathlib.Omega.{arith}
use mathlib.Core.Path.{refl}
use Rattle.sets.specs.Sets.{◌∪◌}
use Rattle.sets.proofs.Unions.{none_union, union_none}
use Rattle.flow.specs.Box.{descriptor, name, is_file}
use Rattle.flow.specs.Calls.{unlink, rename}
use Rattle.flow.specs.Refusals.{ranges}
use Rattle.store.specs.Maps.{view, file_set}
use Rattle.tracker.specs.Plans.{lost_by, lost_for}
use Rattle.tracker.proofs.Facts.{process_lt, process_itself, name_a, name_b}
use Rattle.tracker.proofs.release.lost_by.Goals as goal

pub overflow_add-q : goal.overflow_add-q
overflow_add-q c = omega (arith, process_lt c.requires)

pub returns-in-Close : goal.returns-in-Close
unfolding view lost_for lost_by descriptor file_set is_file
returns-in-Close c = rw (c.in-Close.is, c.descriptor.ensures, union_none (file_set _ ∪ 0), union_none) refl

pub returns-in-Unmap : goal.returns-in-Unmap
unfolding view lost_for lost_by file_set is_file
returns-in-Unmap c = rw (c.in-Unmap.is, none_union (file_set _), union_none) refl

pub returns-in-Unlink : goal.returns-in-Unlink
unfolding view lost_for lost_by name file_set is_file ranges
returns-in-Unlink c = rw (c.in-Unlink.is, c.name.ensures, union_none (file_set _ ∪ 0), union_none, name_a c.requires unlink (rw c.in-Unlink.is refl) refl) refl

pub returns-in-Rename : goal.returns-in-Rename
unfolding view lost_for lost_by name file_set is_file ranges
returns-in-Rename c = rw (c.in-Rename.is, c.name-in-Rename.ensures, union_none (file_set _ ∪ 0), union_none, name_b c.requires rename (rw c.in-Rename.is refl) refl) refl

pub returns-in-Fork : goal.returns-in-Fork
unfolding lost_for lost_by file_set is_file
returns-in-Fork c = rw (c.in-Fork.is, c.held_by.ensures, none_union 0, none_union) refl

pub returns-in-Exit : goal.returns-in-Exit
unfolding lost_for lost_by file_set is_file
returns-in-Exit c = rw (c.in-Exit.is, c.with.ensures, c.held_by-in-Exit.ensures, process_itself c.requires, none_union 0, none_union) refl

-- the other kinds end no use
pub returns-in_default : goal.returns-in_default
unfolding lost_for lost_by file_set is_file
returns-in_default c = rw (none_union 0, none_union) (grind arith)

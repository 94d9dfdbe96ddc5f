-- `file_set` makes the set of a file or pipe.
use Rattle.std.proofs.Common.{sym, ap, ◌∙◌}
use native.Mathlib.Nat.{mod-eq_of_lt}
use Rattle.sets.specs.Sets.{◌∪◌, only}
use Rattle.store.proofs.Files.{file_set_file, file_set_none, file_range, file_test}
use Rattle.store.proofs.blocks.file_set.Goals as goal

pub returns-then-contains : goal.returns-then-contains
unfolding ◌∪◌
returns-then-contains c =
    let h = sym (file_test c.args.e) ∙ sym c.if-contains.ensures.value in
    c.with.ensures ∙ ap only (mod-eq_of_lt (file_range _ h).1) ∙ sym (file_set_file _ h)

pub returns-else-contains : goal.returns-else-contains
returns-else-contains c = sym (file_set_none _ (sym (file_test c.args.e) ∙ sym c.if-contains.ensures.value))

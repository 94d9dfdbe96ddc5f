-- Mappings, live processes and descriptors, one after the other.
use native.Mathlib.Nat.{mod-eq_of_lt}
use mathlib.Core.Path.{refl, ap, ◌∙◌}
use Rattle.flow.specs.Box.{row_of}
use Rattle.flow.specs.Calls.{with_live, with_row, with_rows, with_descriptors, tables_by}
use Rattle.store.specs.Maps.{Maps, with_tables, view}
use Rattle.tracker.proofs.Facts.{below16}
use Rattle.tracker.proofs.tables.fork.Goals as goal

pub returns : goal.returns
unfolding view with_live with_row with_rows with_descriptors row_of tables_by
returns c =
    let d = c.copy_block.new.descriptors in
    let n = c.args.t.now.names in
    c.set_live.ensures d n
    ∙ ap (λ (m : Maps). with_tables m (with_live m.tables c.with.result)) (c.copy_rows.ensures d n)
    ∙ rw (c.copy_block.ensures, c.with.ensures, c.live-z.ensures, mod-eq_of_lt c.requires.0, mod-eq_of_lt c.requires.1, below16 c.requires.1) refl

-- `release` empties what the entry leads to, then unmap's container, then the others.
use Prim.Native.Nat.{ℕ}
use mathlib.Core.Path.{ap, ◌∙◌}
use mathlib.Core.List.{List}
use Rattle.sets.specs.Sets.{◌∪◌}
use Rattle.store.specs.Maps.{with_items, cleared, file_set}
use Rattle.tracker.specs.Plans.{gone_of}
use Rattle.tracker.specs.View.{view}
use Rattle.tracker.proofs.Finding.{cleared_join, gone_both}
use Rattle.tracker.proofs.release.release.Goals as goal

pub returns : goal.returns
returns c =
    let a = c.args in
    let m = view a.t.now in
    let t = m.tables in
    let entry : ℕ = file_set a.lost.entry in
    let unmapped : ℕ = file_set a.lost.unmapped in
    c.release_held.ensures ∙ rw (c.release_one-2.ensures, c.release_one.ensures)
    (ap (with_items m)
    (ap (λ (l : List ℕ). cleared l (gone_of t a.lost.held)) (cleared_join m.items _ _ _ (gone_both t entry unmapped))
    ∙ cleared_join m.items _ _ _ (gone_both t (entry ∪ unmapped) a.lost.held)))

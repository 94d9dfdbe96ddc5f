-- `count` counts by the cells, and past the tables nothing.
use mathlib.Core.Path.{sym, ap, ◌∙◌}
use Rattle.store.specs.declared.counts.Cells.{Cells}
use Rattle.store.specs.Pairs.{read_in, both_in}
use Rattle.store.specs.Sorts.{sort_in}
use Rattle.store.proofs.Storing.{reads_counted, boths_counted}
use Rattle.store.proofs.Raising.{none_past}
use Rattle.store.proofs.counts.count.Goals as goal

pub returns-then-p-ge-PROCESSES : goal.returns-then-p-ge-PROCESSES
returns-then-p-ge-PROCESSES c d n =
    let a = c.args in
    sym (none_past (sort_in a.x) a.words.now d n a.p.0 a.c.0 c.then-p-ge-PROCESSES.either)

pub returns-in-ToRead : goal.returns-in-ToRead
returns-in-ToRead c d n =
    let a = c.args in
    rw (c.in-ToRead.is, reads_counted a.words.now d n c.told-words _ c.if-p-ge-PROCESSES.false _ c.if-c-ge-CONTAINERS.false)
    (c.read_count.ensures ∙ ap (λ (z : Cells). read_in z a.c.0) c.at-cells.ensures)

pub returns-in-BothWays : goal.returns-in-BothWays
returns-in-BothWays c d n =
    let a = c.args in
    rw (c.in-BothWays.is, boths_counted a.words.now d n c.told-words _ c.if-p-ge-PROCESSES.false _ c.if-c-ge-CONTAINERS.false)
    (c.both_count.ensures ∙ ap (λ (z : Cells). both_in z a.c.0) c.at-cells.ensures)

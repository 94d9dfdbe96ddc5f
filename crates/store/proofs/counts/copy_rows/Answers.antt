-- `copy_rows` copies both sets of a process, and its counts where it maps something.
use Rattle.store.proofs.Storing.{copied_all, copied_none}
use Rattle.store.proofs.counts.copy_rows.Goals as goal

pub returns-then-maps-ne0 : goal.returns-then-maps-ne0
returns-then-maps-ne0 c d n =
    rw (c.copy_counts-then-maps-ne0.ensures, c.copy_counts.ensures) (copied_all c.args.words.now d n c.told-words _ _ c.requires.0 c.requires.1)

pub returns-else-maps-ne0 : goal.returns-else-maps-ne0
returns-else-maps-ne0 c d n =
    copied_none c.args.words.now d n c.told-words _ _ c.requires.0 c.requires.1 c.if-maps-ne0.false

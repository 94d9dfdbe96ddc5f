-- `recount` stores the cells with another count.
use Rattle.store.proofs.Raising.{read_turned, both_turned}
use Rattle.store.proofs.counts.recount.Goals as goal

pub returns-in-ToRead : goal.returns-in-ToRead
returns-in-ToRead c d n =
    rw (c.store.ensures, c.in-ToRead.is)
    (read_turned c.args.words.now d n c.told-words _ c.requires.0 _ c.requires.1 _ _ (rw c.at-old.ensures at c.with_reads.ensures))

pub returns-in-BothWays : goal.returns-in-BothWays
returns-in-BothWays c d n =
    rw (c.store-in-BothWays.ensures, c.in-BothWays.is)
    (both_turned c.args.words.now d n c.told-words _ c.requires.0 _ c.requires.1 _ _ (rw c.at-old.ensures at c.with_boths.ensures))

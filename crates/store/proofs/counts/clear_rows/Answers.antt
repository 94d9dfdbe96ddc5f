-- `clear_rows` empties the set of what the process maps.
use Rattle.store.proofs.Storing.{rows_cleared}
use Rattle.store.proofs.counts.clear_rows.Goals as goal

pub returns : goal.returns
returns c d n = rows_cleared c.args.words.now d n c.told-words c.args.p.0 c.requires

use Rattle.std.proofs.Common.{◌%◌}
use Rattle.sets.specs.Sets.{count}
use Rattle.store.proofs.Words.{links_of, fed_rows}
use Rattle.store.proofs.Searching.{Search}
use Rattle.store.proofs.spread.reach.Given as goal

abbrev pub invariant-loop-p : goal.invariant-loop-p
invariant-loop-p l = Search (links_of l.words) (fed_rows l.words) (l.fn.u.0 % 64) l.seen l.left

abbrev pub decreases-loop-p : goal.decreases-loop-p
decreases-loop-p l = count l.left

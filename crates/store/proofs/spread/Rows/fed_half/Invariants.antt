use Rattle.sets.specs.Sets.{◌∩◌}
use Rattle.store.specs.Maps.{part}
use Rattle.store.specs.Search.{fed_from}
use Rattle.store.proofs.Searching.{Seek}
use Rattle.store.proofs.spread.Rows.fed_half.Given as goal

abbrev pub invariant-loop-p : goal.invariant-loop-p
invariant-loop-p l = Seek (fed_from (part 65 16 l.self.words.now) l.x) (l.left ∩ l.half) l.p-iterator.left

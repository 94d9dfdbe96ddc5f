use Rattle.store.specs.Maps.{items_in}
use Rattle.rules.proofs.Worklist.{Gathering}
use Rattle.rules.proofs.judging.held.Given as goal

abbrev pub invariant-loop-v : goal.invariant-loop-v
invariant-loop-v l = Gathering (items_in l.words) l.set l.found l.v-iterator.left

use Rattle.std.proofs.Common.{not}
use Rattle.flow.specs.Lists.{is_in}
use Rattle.store.proofs.Unused.{Sifting}
use Rattle.store.proofs.lookups.absent.Given as goal

abbrev pub invariant-loop-v : goal.invariant-loop-v
invariant-loop-v l = Sifting (λ c. not (is_in c l.table)) l.x l.found l.v-iterator.left

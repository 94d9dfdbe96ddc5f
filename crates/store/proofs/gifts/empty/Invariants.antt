use Rattle.store.proofs.Worklist.{Working}
use Rattle.store.proofs.gifts.empty.Given as goal

abbrev pub invariant-loop-v : goal.invariant-loop-v
invariant-loop-v l = Working (λ y. 0) l.initial.items l.r l.items l.v-iterator.left

use Rattle.sets.specs.Sets.{◌∪◌}
use Rattle.store.proofs.Worklist.{Working}
use Rattle.store.proofs.Gains.{Lacking}
use Rattle.store.proofs.gifts.give.Given as goal

abbrev pub invariant-loop-v : goal.invariant-loop-v
invariant-loop-v l = Working (λ y. y ∪ l.x) l.initial.items l.r l.items l.v-iterator.left × Lacking l.x l.initial.items l.r l.items l.v-iterator.left l.lacked

use Rattle.tracker.specs.View.{view}
use Rattle.tracker.proofs.Finding.{Releasing}
use Rattle.tracker.proofs.release.release_each.Given as goal

abbrev pub invariant-loop-v : goal.invariant-loop-v
invariant-loop-v l =
    (goal.iterator-loop-v).can_next l.v-iterator × (goal.iterator-loop-v).is_finite l.v-iterator
    × Releasing (view l.initial.t) (view l.t) l.held l.v-iterator.left

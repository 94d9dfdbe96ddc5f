use Rattle.std.specs.Iterator.Adapters.{enumerate_source, enumerate_count}
use Rattle.tracker.proofs.Holders.{Partly}
use Rattle.tracker.proofs.queries.fill.Given as goal

-- the members left are those of the iterator, and as many as it counted are written
abbrev pub invariant-loop-n : goal.invariant-loop-n
invariant-loop-n l =
    (goal.iterator-loop-n).can_next l.n-iterator
    × (goal.iterator-loop-n).is_finite l.n-iterator
    × Partly l.x l.initial.out l.out (enumerate_source l.n-iterator).left (enumerate_count l.n-iterator)

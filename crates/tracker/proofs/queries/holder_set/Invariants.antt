use Prim.Native.Nat.{◌-◌, ◌%◌, ◌≤◌}
use mathlib.Core.Path.{◌≡◌}
use Rattle.store.specs.Maps.{part}
use Rattle.tracker.proofs.Holders.{found_to}
use Rattle.tracker.proofs.queries.holder_set.Given as goal

abbrev pub invariant-loop-c : goal.invariant-loop-c
invariant-loop-c l = (l.c ≤ 64) × (l.x ≡ found_to (part 1 64 l.words) (l.i % 64) l.c)

abbrev pub decreases-loop-c : goal.decreases-loop-c
decreases-loop-c l = 64 - l.c

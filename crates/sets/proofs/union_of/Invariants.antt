use Rattle.std.proofs.Common.{◌≡◌, take}
use Rattle.sets.specs.Sets.{union_of}
use Rattle.sets.proofs.union_of.Given as goal

abbrev pub invariant-loop-row : goal.invariant-loop-row
invariant-loop-row l = l.x ≡ union_of (take l.row-index l.rows)

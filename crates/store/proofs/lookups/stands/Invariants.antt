use Rattle.std.proofs.Common.{◌≡◌, take}
use Rattle.flow.specs.Lists.{is_in}
use Rattle.store.proofs.lookups.stands.Given as goal

abbrev pub invariant-loop-e : goal.invariant-loop-e
invariant-loop-e l = l.found ≡ is_in l.c (take l.e-index l.table)

use Rattle.std.proofs.Common.{◌≡◌, take}
use Rattle.store.specs.Maps.{files_in}
use Rattle.store.proofs.blocks.files_each.Given as goal

abbrev pub invariant-loop-e : goal.invariant-loop-e
invariant-loop-e l = l.files ≡ files_in (take l.e-index l.table)

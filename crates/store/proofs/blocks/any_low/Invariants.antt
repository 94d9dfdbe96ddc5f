use Rattle.std.proofs.Common.{◌≡◌, false, take}
use Rattle.store.specs.Maps.{files_in}
use Rattle.store.proofs.blocks.any_low.Given as goal

abbrev pub invariant-loop-e : goal.invariant-loop-e
invariant-loop-e l = l.found ≡ false → files_in (take l.e-index l.table) ≡ 0

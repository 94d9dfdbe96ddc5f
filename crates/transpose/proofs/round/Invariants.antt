use Rattle.std.proofs.Common.{◌*◌, length}
use Rattle.transpose.proofs.Filling.{Filled}
use Rattle.transpose.proofs.round.Given as goal

abbrev pub invariant-loop-i : goal.invariant-loop-i
invariant-loop-i l = Filled l.d l.rows (2 * length l.yielded) l.cells

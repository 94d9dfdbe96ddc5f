use Prim.Native.Nat.{◌%◌}
use native.Mathlib.Omega.{arith}
use Rattle.sets.specs.Sets.{◌∩◌}
use Rattle.sets.proofs.Members.{less_only}
use Rattle.sets.proofs.without.Goals as goal

pub returns : goal.returns
unfolding ◌∩◌
returns c = rw c.one.ensures (less_only c.args.x (c.args.i % 64) c.ranges.x.fits (omega arith))

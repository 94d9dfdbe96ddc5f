use Prim.Native.Nat.{◌%◌}
use native.Mathlib.Nat.{one-mul, mod-eq_of_lt}
use native.Mathlib.Omega.{arith}
use lib.Pow.{pow-lt}
use Rattle.sets.specs.Sets.{only}
use Rattle.sets.proofs.one.Goals as goal

pub returns : goal.returns
unfolding only
returns c = simp (one-mul, mod-eq_of_lt (pow-lt {i = c.args.i % 64} {j = 64} (omega arith)))

-- `stated_length` is the length in the header.
use native.Mathlib.Omega.{arith}
use Rattle.flow.specs.Records.{stated_length}
use Rattle.records.proofs.stated_length.Goals as goal

pub returns : goal.returns
unfolding stated_length
returns c = omega arith

-- `set_of` is the number of eight bytes.
use native.Mathlib.Omega.{arith}
use Rattle.flow.specs.Lists.{table_from}
use Rattle.flow.specs.Records.{byte_at, number_from}
use Rattle.records.proofs.set_of.Goals as goal

pub returns : goal.returns
unfolding table_from number_from byte_at
returns c = omega arith

use Rattle.std.proofs.Common.{arith}
use Rattle.std.proofs.lemmas.Grind.{common_steps}
use Rattle.std.proofs.lemmas.Option.{unwrap_or-slice_get}
use Rattle.flow.specs.Records.{byte_at}
use Rattle.records.proofs.at.Goals as goal

pub returns : goal.returns
unfolding byte_at
returns c = grind (arith, common_steps, unwrap_or-slice_get)

use Rattle.std.proofs.Common.{refl}
use Rattle.flow.specs.Records.{byte_at}
use Rattle.records.proofs.call.Goals as goal

pub returns : goal.returns
unfolding byte_at
returns c = refl

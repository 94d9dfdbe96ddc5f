use Rattle.std.proofs.Common.{add-one}
use Rattle.flow.specs.Records.{byte_at, rule_with}
use Rattle.records.proofs.rule_with.Goals as goal

pub returns : goal.returns
unfolding rule_with byte_at
returns c = rw add-one

use Rattle.std.proofs.Common.{rules, tests}
use Rattle.flow.specs.Records.{known_tag}
use Rattle.records.proofs.TagTryFromU8.try_from.Goals as goal

pub returns-in_default : goal.returns-in_default
unfolding known_tag
returns-in_default c = search (tests, rules)

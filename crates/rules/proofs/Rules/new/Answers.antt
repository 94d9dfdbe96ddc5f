-- `new` has no rules.
use Rattle.rules.specs.Stored.{count_of, rules_of}
use Rattle.flow.specs.Lists.{table_from, table}
use mathlib.Core.Path.{refl}
use Rattle.rules.proofs.Rules.new.Goals as goal

pub returns : goal.returns
unfolding rules_of count_of table table_from
returns c = refl

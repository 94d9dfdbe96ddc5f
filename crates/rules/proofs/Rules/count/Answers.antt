-- `count` is the number of rules, 32 at most.
use mathlib.Core.Path.{◌∙◌}
use Rattle.rules.proofs.StoredLaws.{count_min}
use Rattle.rules.proofs.Rules.count.Goals as goal

pub returns : goal.returns
returns c = c.min.ensures ∙ count_min _

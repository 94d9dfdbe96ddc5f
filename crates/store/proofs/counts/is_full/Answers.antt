-- `is_full` asks the count, which is a byte.
use mathlib.Core.Path.{ap, ◌∙◌}
use lib.Dec.{leb}
use Rattle.store.proofs.Raising.{limit_is}
use borrow.Author.Rules.{rules}
use Rattle.store.proofs.counts.is_full.Goals as goal

pub returns : goal.returns
returns c d n = limit_is c.count.result (search rules) ∙ ap (leb 255) (c.count.ensures d n)

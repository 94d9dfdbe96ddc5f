-- `store` sets the five numbers of the rule and the count.
use native.Mathlib.Omega.{arith}
use borrow.Author.Rules.{rules}
use Rattle.rules.proofs.StoredLaws.{rule_stored}
use Rattle.rules.proofs.Rules.store.Goals as goal

pub returns : goal.returns
returns c = rule_stored _ _ _ _ _ _ _ _ c.parts-tag.ensures (search rules) (search rules) _ c.count-k.ensures (omega arith) (search rules)

-- `condition` goes by the tag.
use mathlib.Core.Path.{sym}
use native.Mathlib.Omega.{arith}
use Rattle.rules.specs.Stored.{condition_at}
use Rattle.rules.proofs.ConditionLaws.{forbids_by, separates_by, confines_by}
use Rattle.rules.proofs.Rules.condition.Goals as goal

pub returns-in-17 : goal.returns-in-17
unfolding condition_at
returns-in-17 c = sym (forbids_by _ _ _ c.in-17.is)

pub returns-in-18 : goal.returns-in-18
unfolding condition_at
returns-in-18 c = sym (separates_by _ _ _ c.in-18.is)

pub returns-in_default : goal.returns-in_default
unfolding condition_at
returns-in_default c = sym (confines_by _ _ _ (λ e. omega (arith, e)) (λ e. omega (arith, e)))

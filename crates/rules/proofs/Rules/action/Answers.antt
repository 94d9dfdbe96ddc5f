-- `action` reads a field of rule k.
use mathlib.Core.Path.{refl}
use Rattle.rules.specs.Stored.{action_at}
use Rattle.rules.proofs.Rules.action.Goals as goal

pub returns : goal.returns
unfolding action_at
returns c = refl

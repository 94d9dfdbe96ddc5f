-- `substitute` reads a field of rule k.
use mathlib.Core.Path.{refl}
use Rattle.rules.specs.Stored.{substitute_at}
use Rattle.rules.proofs.Rules.substitute.Goals as goal

pub returns : goal.returns
unfolding substitute_at
returns c = refl

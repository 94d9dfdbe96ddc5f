use mathlib.Core.Path.{refl}
use Rattle.sets.specs.Sets.{lowest}
use Rattle.sets.proofs.lowest.Goals as goal

pub returns : goal.returns
unfolding lowest
returns c = refl

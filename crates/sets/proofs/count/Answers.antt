use mathlib.Core.Path.{refl}
use Rattle.sets.specs.Sets.{count}
use Rattle.sets.proofs.count.Goals as goal

pub returns : goal.returns
unfolding count
returns c = refl

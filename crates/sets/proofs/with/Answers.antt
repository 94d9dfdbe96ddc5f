use Rattle.sets.specs.Sets.{◌∪◌}
use Rattle.sets.proofs.with.Goals as goal

pub returns : goal.returns
unfolding ◌∪◌
returns c = rw c.one.ensures

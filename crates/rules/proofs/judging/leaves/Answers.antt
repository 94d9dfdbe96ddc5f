-- `leaves` asks whether the set has all those that get the item.
use Rattle.sets.specs.Sets.{◌∩◌}
use Rattle.rules.proofs.judging.leaves.Goals as goal

pub returns : goal.returns
unfolding ◌∩◌
returns c = rw c.gets-x.ensures

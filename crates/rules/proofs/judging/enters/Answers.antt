-- `enters` asks whether the set meets those that get the item.
use Rattle.sets.specs.Sets.{◌∩◌}
use Rattle.flow.specs.Links.{meets}
use Rattle.rules.proofs.judging.enters.Goals as goal

pub returns : goal.returns
unfolding meets ◌∩◌
returns c = rw c.gets.ensures

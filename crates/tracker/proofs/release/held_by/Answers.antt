-- `held_by` joins the files of the descriptors and of what is mapped.
use Rattle.sets.specs.Sets.{◌∪◌, ◌∩◌}
use Rattle.store.specs.Maps.{view}
use Rattle.tracker.specs.Plans.{held_by}
use Rattle.tracker.proofs.release.held_by.Goals as goal

pub returns : goal.returns
unfolding held_by view ◌∪◌ ◌∩◌
returns c = let t = c.args.t.now in rw (c.block_files.ensures, c.maps.ensures t.descriptors t.names)

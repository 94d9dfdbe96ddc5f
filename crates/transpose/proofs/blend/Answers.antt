-- `blend` puts a row together by a mask.
use Rattle.sets.specs.Sets.{◌∪◌, ◌∩◌}
use Rattle.transpose.proofs.Words.{blend_is}
use Rattle.transpose.proofs.blend.Goals as goal

pub returns : goal.returns
unfolding ◌∪◌ ◌∩◌
returns c = blend_is _ _ _ c.ranges.m.fits c.ranges.x.fits c.ranges.y.fits

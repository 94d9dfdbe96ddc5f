-- `files_each`: before an entry the set has the files of the entries before it.
use Rattle.std.proofs.Common.{refl, ap, ◌∙◌}
use lib.Seq.{take_all}
use Rattle.sets.specs.Sets.{◌∪◌}
use Rattle.store.specs.Maps.{files_in}
use Rattle.store.proofs.Files.{files_in_next}
use Rattle.store.proofs.blocks.files_each.Goals as goal

pub loop-e-init : goal.loop-e-init
unfolding files_in
loop-e-init c = refl

pub loop-e-preserved : goal.loop-e-preserved
unfolding ◌∪◌
loop-e-preserved c = files_in_next _ _ _ _ c.loop-e-test.true c.loop-e.invariant c.file_set-files.ensures

pub returns : goal.returns
returns c = c.loop-e.invariant ∙ ap files_in (take_all _ _ c.loop-e-test.false)

-- `any_low`: while the flag is false, no file stands before the entry.
use Rattle.std.proofs.Common.{refl}
use lib.Seq.{take_all}
use Rattle.store.specs.Maps.{files_in}
use Rattle.store.proofs.Files.{none_low}
use Rattle.store.proofs.blocks.any_low.Goals as goal

pub loop-e-init : goal.loop-e-init
unfolding files_in
loop-e-init c = λ e. refl

pub loop-e-preserved : goal.loop-e-preserved
loop-e-preserved c = none_low _ _ _ c.loop-e-test.true c.loop-e.invariant

pub returns : goal.returns
returns c = λ e. rw (take_all _ _ c.loop-e-test.false) at (c.loop-e.invariant e)

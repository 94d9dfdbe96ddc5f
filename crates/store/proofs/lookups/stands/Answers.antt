-- `stands`: before an entry the flag says whether c stands before it.
use Rattle.std.proofs.Common.{refl, ap, ◌∙◌}
use lib.Seq.{take_all}
use Rattle.flow.specs.Lists.{is_in}
use Rattle.store.proofs.Use.{is_in_more}
use Rattle.store.proofs.lookups.stands.Goals as goal

pub loop-e-init : goal.loop-e-init
unfolding is_in
loop-e-init c = refl

pub loop-e-preserved : goal.loop-e-preserved
loop-e-preserved c = rw c.loop-e.invariant (is_in_more _ _ _ c.loop-e-test.true)

pub returns : goal.returns
returns c = c.loop-e.invariant ∙ ap (is_in c.args.c) (take_all _ _ c.loop-e-test.false)

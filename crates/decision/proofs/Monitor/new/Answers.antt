-- `Monitor::new` makes the fresh state.
use Rattle.decision.specs.View.{view}
use Rattle.decision.proofs.Monitor.new.Goals as goal

pub returns : goal.returns
unfolding view
returns c = rw c.new-2.ensures c.new.ensures

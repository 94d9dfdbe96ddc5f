-- `Monitor::holders` asks the tracker.
use Rattle.decision.specs.View.{view}
use Rattle.decision.proofs.Monitor.holders.Goals as goal

pub returns : goal.returns
unfolding view
returns c = c.holders.ensures _

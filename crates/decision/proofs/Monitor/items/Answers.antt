-- `Monitor::items` asks the tracker.
use Rattle.decision.specs.View.{view}
use Rattle.decision.proofs.Monitor.items.Goals as goal

pub returns : goal.returns
unfolding view
returns c = c.items.ensures _

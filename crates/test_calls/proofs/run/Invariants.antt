-- `run` answers the tracker after the calls: after some turns it is the one after as many calls.
use Rattle.std.proofs.Common.{◌≡◌}
use Rattle.tracker.specs.View.{view}
use Rattle.test_calls.specs.Calls.{after_calls}
use Rattle.test_calls.proofs.run.Given as goal

abbrev pub invariant-loop-kind : goal.invariant-loop-kind
invariant-loop-kind g l = view l.t ≡ after_calls l.kind-index l.calls

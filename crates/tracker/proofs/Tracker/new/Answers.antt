-- `Tracker::new` makes the fresh state.
use mathlib.Core.Path.{ap}
use mathlib.Core.List.{[]}
use Rattle.flow.specs.Box.{fresh}
use Rattle.store.specs.Maps.{Maps}
use Rattle.tracker.specs.View.{state}
use Rattle.store.proofs.Words.{fresh_view}
use Rattle.tracker.proofs.Tracker.new.Goals as goal

pub returns : goal.returns
unfolding fresh
returns c = ap (λ (m : Maps). state m []) fresh_view

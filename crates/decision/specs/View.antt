-- How the monitor stands for the state of document 01: the tracker's maps and the rules.
use Rattle.flow.specs.Box.{State}
use Rattle.store.specs.Maps.{Maps}
use Rattle.tracker.specs.View.{state, view as maps_of}
use Rattle.rules.specs.Stored.{rules_of}
use Rattle.decision.specs.declared.Monitor.{Monitor}

abbrev pub maps : Monitor → Maps
maps m = maps_of m.tracker

unfoldable pub view : Monitor → State
view m = state (maps m) (rules_of m.rules.sets m.rules.fields)

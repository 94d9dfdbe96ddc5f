-- The tracker by value as the maps of document 01.
use Rattle.std.specs.Prelude.{List}
use Rattle.flow.specs.Box.{Rule, State}
use Rattle.store.specs.Maps.{Maps, view as maps_of}
use Rattle.tracker.specs.declared.Tracker.{Tracker}

abbrev pub view : Tracker → Maps
view t = maps_of t.words t.descriptors t.names

-- a state of these maps and the rules, which are kept by the layer above
abbrev pub state : Maps → List Rule → State
state m rules = record { tables = m.tables; items = m.items; rules = rules }

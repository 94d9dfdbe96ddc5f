-- `has_room` goes by the log's length, or counts.
use mathlib.Core.Path.{refl}
use Rattle.decision.proofs.LogLaws.{room_enough}
use Rattle.decision.proofs.logs.has_room.Goals as goal

pub returns-then-log-room : goal.returns-then-log-room
returns-then-log-room c = room_enough _ _ c.if-log-room.true

pub returns : goal.returns
returns c = rw c.records_in.ensures refl

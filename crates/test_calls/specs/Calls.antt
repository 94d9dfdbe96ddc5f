-- Calls of five bytes each, one after the other.
use Rattle.std.specs.Prelude.{ℕ, zero, suc, ◌+◌, ◌*◌, List, get_or}
use Rattle.std.proofs.Math.Option.{Option}
use Rattle.flow.specs.Box.{fresh}
use Rattle.flow.specs.Calls.{Call}
use Rattle.flow.specs.Records.{call_from}
use Rattle.store.specs.Maps.{Maps}
use Rattle.tracker.specs.Worked.{worked}

-- the call whose first byte is at i
abbrev pub call_at : List ℕ → ℕ → Option Call
call_at l i = call_from (get_or l i 0) (get_or l (i + 1) 0) (get_or l (i + 2) 0) (get_or l (i + 3) 0) (get_or l (i + 4) 0)

-- the maps after the first n calls, from the fresh ones
unfoldable pub after_calls : ℕ → List ℕ → Maps
after_calls zero l = record { tables = fresh.tables; items = fresh.items }
after_calls (suc n) l = (worked (after_calls n l) (call_at l (5 * n))).maps

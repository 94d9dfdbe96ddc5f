-- `set_live` stores the set of live processes.
use native.Mathlib.Omega.{arith}
use Rattle.store.proofs.Writes.{live_set}
use Rattle.store.proofs.cells.set_live.Goals as goal

pub returns : goal.returns
returns c = λ d n. live_set _ d n _ (omega (arith, c.told-words))

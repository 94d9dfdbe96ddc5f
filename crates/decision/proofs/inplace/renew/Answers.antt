-- `renew` makes the fresh state.
use mathlib.Core.Path.{ap}
use mathlib.Core.List.{[]}
use Rattle.flow.specs.Lists.{table_from, table}
use Rattle.flow.specs.Box.{State, fresh}
use Rattle.store.specs.Maps.{Maps}
use Rattle.store.proofs.Words.{fresh_view}
use Rattle.rules.specs.Stored.{count_of, rules_of}
use Rattle.decision.specs.View.{view}
use Rattle.decision.proofs.inplace.renew.Goals as goal

pub returns : goal.returns
unfolding view rules_of count_of table table_from fresh
returns c = ap {B = State} (λ (m : Maps). record { tables = m.tables; items = m.items; rules = [] }) fresh_view

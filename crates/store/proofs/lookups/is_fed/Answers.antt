-- `is_fed` asks all processes, where some may map the container both ways.
use Rattle.std.proofs.Common.{ℕ, ◌<◌, ◌^◌, sym, ap, ◌∙◌}
use Rattle.sets.specs.Sets.{has}
use Rattle.store.proofs.Use.{fed_is, unfed}
use Rattle.store.proofs.lookups.is_fed.Goals as goal

pub returns-then-holds : goal.returns-then-holds
returns-then-holds c d n =
    let b : c.fed_set.result < 2 ^ 64 = c.fed_set.type_inv in
    c.holds-then-holds.ensures ∙ rw c.fed_set.ensures (fed_is _ d n c.told-words _ (rw c.fed_set.ensures at b))

pub returns-else-holds : goal.returns-else-holds
returns-else-holds c d n =
    c.if-holds.false ∙ sym (unfed _ d n c.told-words c.args.c.0 (ap (λ (z : ℕ). has z c.args.c.0) (sym c.ways_set.ensures) ∙ sym c.if-holds.ensures))

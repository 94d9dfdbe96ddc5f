-- `give_at` adds the items to one container, and tells whether it lacked one.
use mathlib.Core.Path.{refl}
use Rattle.sets.specs.Sets.{◌∪◌}
use Rattle.store.proofs.Gains.{give_same, give_more}
use Rattle.store.proofs.gifts.give_at.Goals as goal

pub returns-then-all-old : goal.returns-then-all-old
unfolding ◌∪◌
returns-then-all-old c = give_same _ _ _ c.if-all-old.true

pub returns : goal.returns
unfolding ◌∪◌
returns c = (refl, give_more _ _ c.if-all-old.false)

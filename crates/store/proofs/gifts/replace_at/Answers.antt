-- `replace_at` stores the items, and tells whether the container lacked one.
use native.Mathlib.Omega.{arith}
use mathlib.Core.Path.{refl}
use Rattle.sets.specs.Sets.{◌∪◌}
use Rattle.store.proofs.Gains.{replaced_same, replaced_more}
use borrow.Author.Rules.{rules}
use Rattle.store.proofs.gifts.replace_at.Goals as goal

pub returns-then-old-x : goal.returns-then-old-x
unfolding ◌∪◌
returns-then-old-x c = (refl, replaced_same _ _ _ (search rules) (omega arith) c.if-old-x.true)

pub returns : goal.returns
unfolding ◌∪◌
returns c = (refl, replaced_more _ _ _ (search rules) (omega arith) c.if-old-x.false _ c.with.ensures)

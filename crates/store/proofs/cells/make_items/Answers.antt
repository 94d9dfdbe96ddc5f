-- `make_items` gives twice, and tells which containers gained.
use native.Mathlib.Omega.{arith}
use mathlib.Core.Path.{refl}
use Rattle.sets.specs.Sets.{◌∪◌}
use Rattle.store.specs.Maps.{part, gifts}
use Rattle.store.proofs.Parts.{part_length}
use Rattle.store.proofs.Words.{items_made}
use Rattle.store.proofs.Gains.{gained_both}
use Rattle.store.proofs.cells.make_items.Goals as goal

pub returns : goal.returns
unfolding part ◌∪◌
returns c =
    let w = c.args.words.now in
    let first = c.give-first.ensures in
    let second = c.give-second.ensures in
    let both = gained_both (part 1 64 w) _ _ (gifts c.args.plan) _ _ (part_length 1 64 w (omega (arith, c.told-words))) refl first.0 second.0 first.1 second.1 in
    record { made = λ d n. items_made _ _ d n c.told-words _ both.0; told = both.1 }

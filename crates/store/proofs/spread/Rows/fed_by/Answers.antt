-- `fed_by` is what is in both sets.
use Rattle.std.proofs.Common.{ℕ, get_or, arith, ap₂}
use Rattle.sets.specs.Sets.{◌∩◌}
use Rattle.store.specs.Maps.{maps_in, ways_in}
use Rattle.store.proofs.spread.Rows.fed_by.Goals as goal

pub returns : goal.returns
unfolding ◌∩◌ maps_in ways_in
returns c =
    let w = c.args.self.now.words.now in
    ap₂ (λ (i j : ℕ). get_or w i 0 ∩ get_or w j 0) (omega (arith, c.requires.0)) (omega (arith, c.requires.0))

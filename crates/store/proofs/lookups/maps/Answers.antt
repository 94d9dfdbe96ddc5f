-- `maps` reads a set.
use Rattle.std.proofs.Common.{◌≡◌, get_or, rules, ◌∙◌}
use Rattle.store.specs.Maps.{part}
use Rattle.store.proofs.Words.{feeders_row}
use Rattle.store.proofs.lookups.maps.Goals as goal

pub returns : goal.returns
unfolding part
returns c d n =
    let e : c.unwrap_or.result ≡ get_or (part 65 16 c.args.words.now) c.args.p.0 0 = search rules in
    e ∙ feeders_row _ d n c.fits-words _

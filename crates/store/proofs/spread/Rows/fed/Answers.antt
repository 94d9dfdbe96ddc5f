-- `fed` tries the low half, then the high one.
use Rattle.store.specs.Maps.{part}
use Rattle.store.proofs.Searching.{found_low, found_high}
use Rattle.store.proofs.spread.Rows.fed.Goals as goal

pub returns-in-Some : goal.returns-in-Some
returns-in-Some c = found_low (part 65 16 c.args.self.now.words.now) _ c.requires _ _ c.in-Some.ensures

pub returns-in-None : goal.returns-in-None
returns-in-None c = found_high (part 65 16 c.args.self.now.words.now) _ c.requires _ _ c.in-None.ensures c.fed_half-in-None.ensures

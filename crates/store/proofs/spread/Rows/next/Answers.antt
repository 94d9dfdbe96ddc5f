-- `next` finds a process that is in the set or fed from it.
use Rattle.std.proofs.Common.{arith}
use Rattle.sets.specs.Sets.{◌∩◌, ◌∪◌}
use Rattle.store.specs.Maps.{part}
use Rattle.store.proofs.Searching.{within_both, own_below, next_own, next_none, next_fed}
use Rattle.store.proofs.spread.Rows.next.Goals as goal

pub overflow_cast-result : goal.overflow_cast-result
unfolding ◌∩◌
overflow_cast-result c =
    omega (arith, own_below (part 65 16 c.args.self.now.words.now) c.args.x c.args.left c.ranges.x.fits c.if-own-ne0.true _ c.lowest.ensures)

pub returns-then-own-ne0 : goal.returns-then-own-ne0
unfolding ◌∩◌
returns-then-own-ne0 c = next_own (part 65 16 c.args.self.now.words.now) _ _ c.ranges.x.fits c.if-own-ne0.true _ c.lowest.ensures

pub returns-then-x-self-eq0 : goal.returns-then-x-self-eq0
unfolding ◌∩◌ ◌∪◌
returns-then-x-self-eq0 c =
    let rows = c.args.self.now in
    let w = part 65 16 rows.words.now in
    next_none w _ _ c.if-own-ne0.false _ (within_both w _ c.requires _ _ rows.low_within rows.high_within) c.if-x-self-eq0.true

pub returns : goal.returns
unfolding ◌∩◌
returns c = next_fed (part 65 16 c.args.self.now.words.now) _ _ c.if-own-ne0.false _ c.fed.ensures

-- `fed_half` tries the processes of a half, the lowest first, where one may be fed.
use Rattle.std.proofs.Common.{◌≡◌, ◌+◌, ◌<◌, get_or}
use Rattle.sets.specs.Sets.{◌∩◌}
use Rattle.flow.proofs.Meets.{meets_true, meets_false}
use Rattle.store.specs.Maps.{part}
use Rattle.store.proofs.Parts.{part_at}
use Rattle.store.proofs.Searching.{half_none, half_lt, seek_start, seek_below, seek_hit, seek_miss, seek_end}
use Rattle.store.proofs.spread.Rows.fed_half.Goals as goal

pub returns-then-x-all-eq0 : goal.returns-then-x-all-eq0
unfolding ◌∩◌
returns-then-x-all-eq0 c = let a = c.args in half_none (part 65 16 a.self.now.words.now) a.x a.left a.half a.all c.requires.0 c.if-x-all-eq0.true

pub loop-p-init : goal.loop-p-init
unfolding ◌∩◌
loop-p-init c =
    let e : c.into_iter-p-iterator.result.left ≡ c.args.left ∩ c.args.half = rw c.into_iter-p-iterator.ensures.into_iter_gives c.each-p-items.ensures in
    rw e (seek_start _ _ (half_lt c.args.left c.args.half c.requires.1))

pub loop-p-preserved : goal.loop-p-preserved
unfolding ◌∩◌
loop-p-preserved c =
    let s = c.in-Some.ensures.steps in
    let w = c.args.self.now.words.now in
    let below : c.in-Some.p < 16 = seek_below c.loop-p.invariant s.0 _ s.1 in
    let row : get_or w (65 + c.in-Some.p) 0 ≡ get_or (part 65 16 w) c.in-Some.p 0 = part_at 65 16 w _ below in
    seek_miss c.loop-p.invariant s.0 _ s.1 (rw row at (meets_false _ _ c.if-x-self-ne0.false)) _ s.2

pub returns-then-x-self-ne0 : goal.returns-then-x-self-ne0
unfolding ◌∩◌
returns-then-x-self-ne0 c =
    let s = c.in-Some.ensures.steps in
    let w = c.args.self.now.words.now in
    let below : c.in-Some.p < 16 = seek_below c.loop-p.invariant s.0 _ s.1 in
    let row : get_or w (65 + c.in-Some.p) 0 ≡ get_or (part 65 16 w) c.in-Some.p 0 = part_at 65 16 w _ below in
    seek_hit c.loop-p.invariant s.0 _ s.1 (rw row at (meets_true _ _ c.if-x-self-ne0.true))

pub returns : goal.returns
returns c = seek_end c.loop-p.invariant c.in-None.ensures.steps.0

-- `release_each` asks for one container after the other.
use native.Mathlib.Omega.{arith}
use mathlib.Core.Path.{◌≡◌}
use lib.ListN.{length}
use Rattle.store.specs.Maps.{view}
use Rattle.store.proofs.Parts.{part_length}
use Rattle.tracker.proofs.Finding.{releasing_start, releasing_more, releasing_end}
use borrow.Author.Rules.{rules}
use Rattle.tracker.proofs.release.release_each.Goals as goal

pub loop-v-init : goal.loop-v-init
unfolding view
loop-v-init c =
    let w = c.args.t.now.words in
    let l : length w ≡ 353 = search rules in
    (tt, tt, rw (c.into_iter-v-iterator.ensures.into_iter_gives, c.each-v-items.ensures) (releasing_start _ _ c.ranges.held.fits (part_length 1 64 w (omega arith))))

pub loop-v-preserved : goal.loop-v-preserved
loop-v-preserved c =
    (tt, tt, releasing_more c.loop-v.invariant.2 _ _ c.in-Some.ensures.steps _ c.release_one.ensures)

pub returns : goal.returns
returns c = releasing_end c.loop-v.invariant.2 c.in-None.ensures.steps.0

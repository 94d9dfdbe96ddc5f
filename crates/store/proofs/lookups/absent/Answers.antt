-- `absent` asks for one member after the other.
use Rattle.std.proofs.Common.{◌≡◌, not, sym, ap}
use Rattle.store.proofs.Unused.{sifting_start, sifting_kept, sifting_left, sifting_end}
use Rattle.store.proofs.lookups.absent.Goals as goal

pub loop-v-init : goal.loop-v-init
loop-v-init c =
    let e : c.into_iter-v-iterator.result.left ≡ c.args.x = rw c.into_iter-v-iterator.ensures.into_iter_gives c.each-v-items.ensures in
    rw e (sifting_start _ _ c.ranges.x.fits)

pub loop-v-preserved-then-not-stands : goal.loop-v-preserved-then-not-stands
loop-v-preserved-then-not-stands c =
    let s = c.in-Some.ensures.steps in
    rw c.with-found.ensures (sifting_kept c.loop-v.invariant s.0 _ s.1 _ s.2 (ap not (sym c.if-not-stands.ensures)))

pub loop-v-preserved : goal.loop-v-preserved
loop-v-preserved c =
    let s = c.in-Some.ensures.steps in
    sifting_left c.loop-v.invariant s.0 _ s.1 _ s.2 (ap not (sym c.if-not-stands.ensures))

pub returns : goal.returns
returns c = sifting_end c.loop-v.invariant c.in-None.ensures.steps.0

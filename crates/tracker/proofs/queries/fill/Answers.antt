-- `fill` writes the members of the set, the lowest first: after n turns n of them stand at the front of the slice and the others are left.
use Prim.Native.Nat.{◌^◌, ◌<◌}
use native.Mathlib.Omega.{arith}
use mathlib.Core.Logic.{inl}
use Rattle.std.specs.Iterator.Adapters.{enumerate_source, enumerate_count}
use Rattle.sets.specs.Sets.{count}
use Rattle.sets.proofs.Members.{count_le}
use Rattle.tracker.proofs.Holders.{partly_none, Turn, counted_on, partly_more, partly_all}
use Rattle.tracker.proofs.queries.fill.Goals as goal
use Rattle.tracker.proofs.queries.fill.Goals.{In-Some}

turn : (c : In-Some) →
    Turn c.args.x c.args.out.now c.loop-n.out (enumerate_count c.loop-n.n-iterator) c.in-Some.c (enumerate_source c.next.new.self).left
turn c =
    partly_more c.args.x c.args.out.now c.loop-n.out (enumerate_source c.loop-n.n-iterator).left (enumerate_count c.loop-n.n-iterator)
    c.loop-n.invariant.2 c.requires c.in-Some.c (enumerate_source c.next.new.self).left c.in-Some.ensures.steps.0

pub loop-n-init : goal.loop-n-init
loop-n-init c =
    rw (c.into_iter-n-iterator.ensures.into_iter_gives, c.enumerate-n-items.ensures.source, c.enumerate-n-items.ensures.count, c.each.ensures)
    ((tt, tt, inl (let h : count c.args.x < 2 ^ 64 = omega (arith, count_le c.args.x c.ranges.x.fits) in omega arith)), tt, partly_none c.args.x c.args.out.now c.ranges.x.fits)

pub bounds-out-n : goal.bounds-out-n
bounds-out-n c = rw c.in-Some.ensures.steps.1 (turn (goal.at.bounds-out-n c).In-Some).room

pub loop-n-preserved : goal.loop-n-preserved
loop-n-preserved c =
    let p = (turn (goal.at.loop-n-preserved c).In-Some).next in
    rw (c.from.ensures, c.in-Some.ensures.steps.1, c.in-Some.ensures.steps.2)
    ((tt, tt, inl (counted_on _ _ _ _ _ p c.ranges.x.fits)), tt, p)

pub returns : goal.returns
returns c =
    partly_all c.args.x c.args.out.now c.loop-n.out (enumerate_source c.loop-n.n-iterator).left (enumerate_count c.loop-n.n-iterator)
    c.loop-n.invariant.2 c.in-None.ensures.steps.0.0

-- `holder_set` makes the set of the containers that hold the item: after c turns it is those of the first c containers.
use Prim.Native.Nat.{◌%◌}
use mathlib.Core.Path.{◌≡◌, sym, ◌∙◌}
use native.Mathlib.Omega.{arith}
use borrow.Author.Rules.{rules}
use Rattle.store.specs.Maps.{part, view}
use Rattle.tracker.specs.View.{state}
use Rattle.tracker.proofs.Holders.{found_none, found_next, found_all}
use Rattle.tracker.proofs.queries.holder_set.Goals as goal

pub loop-c-init : goal.loop-c-init
loop-c-init c = (search rules, sym (found_none (part 1 64 c.args.words.now) (c.args.i % 64)))

pub loop-c-preserved : goal.loop-c-preserved
loop-c-preserved c =
    let a = c.args in
    (search rules, found_next (part 1 64 a.words.now) (a.i % 64) c.loop-c.c c.loop-c.x c.with_holder-x.result (omega arith) c.loop-c.invariant.1 (rw c.items-held.ensures at c.with_holder-x.ensures))

pub returns : goal.returns
unfolding view
returns c = let a = c.args in let done : c.loop-c.c ≡ 64 = omega arith in λ d n rules. rw done at c.loop-c.invariant.1 ∙ found_all (state (view a.words.now d n) rules) (a.i % 64)

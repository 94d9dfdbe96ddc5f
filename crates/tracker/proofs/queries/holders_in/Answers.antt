-- `holders_in` refuses with 5, then with 13 once the holders are counted, and otherwise writes the holders in rising order.
use native.Mathlib.Omega.{arith}
use Rattle.store.specs.Maps.{view}
use Rattle.tracker.specs.View.{state}
use Rattle.tracker.proofs.Holders.{refused_range, refused_short, holders_given}
use Rattle.tracker.proofs.queries.holders_in.Goals as goal

pub returns-then-out-n : goal.returns-then-out-n
returns-then-out-n c =
    let a = c.args in
    λ d n rules. refused_short (state (view a.words.now d n) rules) a.i a.out.now (omega arith) c.holder_set-x.result c.count-n.result
    (c.holder_set-x.ensures d n rules) c.count-n.ensures (omega arith)

pub returns : goal.returns
returns c =
    let a = c.args in
    λ d n rules. holders_given (state (view a.words.now d n) rules) a.i a.out.now (omega arith) c.holder_set-x.result c.count-n.result
    (c.holder_set-x.ensures d n rules) c.count-n.ensures c.fill.new.out (omega arith) c.fill.ensures

pub returns-then-i-ge-ITEMS : goal.returns-then-i-ge-ITEMS
returns-then-i-ge-ITEMS c = let a = c.args in λ d n rules. refused_range (state (view a.words.now d n) rules) a.i a.out.now (omega arith)

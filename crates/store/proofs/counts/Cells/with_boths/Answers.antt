-- `with_boths` stores both counts, or takes the container out of one of the sets.
use native.Mathlib.Nat.{mod-eq_of_lt}
use Rattle.store.proofs.Turning.{mapped_none, boths_some, boths_ended}
use borrow.Author.Rules.{rules}
use Rattle.store.proofs.counts.Cells.with_boths.Goals as goal

pub returns-then-n-ne0 : goal.returns-then-n-ne0
returns-then-n-ne0 c =
    rw (← c.read_count-r.ensures, c.put-then-n-ne0.ensures, c.put.ensures, c.with-then-n-ne0.ensures, c.with.ensures, mod-eq_of_lt c.requires)
    (boths_some c.args.self c.args.c.0 c.requires c.read_count-r.result c.args.n (search rules) (search rules) c.if-n-ne0.true)

pub returns-then-r-eq0 : goal.returns-then-r-eq0
returns-then-r-eq0 c =
    rw (← c.read_count-r.ensures, c.without.ensures, mod-eq_of_lt c.requires)
    (mapped_none c.args.self c.args.c.0 c.requires c.read_count-r.result c.if-r-eq0.true c.args.n c.if-n-ne0.false)

pub returns : goal.returns
returns c =
    rw (← c.read_count-r.ensures, c.without-2.ensures, mod-eq_of_lt c.requires)
    (boths_ended c.args.self c.args.c.0 c.requires c.read_count-r.result c.read_count-r.ensures c.if-r-eq0.false c.args.n c.if-n-ne0.false)

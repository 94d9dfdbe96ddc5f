-- `with_reads` stores the count, or takes the container out of the set.
use native.Mathlib.Nat.{mod-eq_of_lt}
use mathlib.Core.Path.{sym, ◌∙◌}
use mathlib.Core.Bool.{true, false}
use Rattle.sets.specs.Sets.{has}
use Rattle.flow.proofs.Bools.{and_l, and_r}
use Rattle.store.proofs.Turning.{both_none, two_ways, reads_beside, mapped_none, reads_alone}
use borrow.Author.Rules.{rules}
use Rattle.store.proofs.counts.Cells.with_reads.Goals as goal

pub returns-then-member : goal.returns-then-member
returns-then-member c =
    let x = c.args.self in
    let t = two_ways x _ true c.requires (sym c.member.ensures ∙ c.if-member.true) in
    rw c.put.ensures (reads_beside x c.args.c.0 c.requires c.args.n (search rules) (and_l _ _ t) (and_r (has x.maps c.args.c.0) _ t))

pub returns-then-n-eq0 : goal.returns-then-n-eq0
returns-then-n-eq0 c =
    let x = c.args.self in
    let t = two_ways x _ false c.requires (sym c.member.ensures ∙ c.if-member.false) in
    rw (c.without.ensures, mod-eq_of_lt c.requires)
    (mapped_none x c.args.c.0 c.requires c.args.n c.if-n-eq0.true _ (both_none _ _ t))

pub returns : goal.returns
returns c =
    let x = c.args.self in
    let t = two_ways x _ false c.requires (sym c.member.ensures ∙ c.if-member.false) in
    rw (c.put-2.ensures, c.without-2.ensures, c.with.ensures, mod-eq_of_lt c.requires)
    (reads_alone x c.args.c.0 c.requires c.args.n (search rules) c.if-n-eq0.false t)

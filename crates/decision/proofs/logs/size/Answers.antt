-- `size` counts the members.
use Prim.Native.Nat.{ℕ, ◌+◌}
use native.Mathlib.Omega.{arith}
use mathlib.Core.Path.{◌≡◌, sym, ap, ◌∙◌}
use lib.ListN.{length}
use Rattle.sets.specs.Sets.{count, members}
use Rattle.sets.proofs.Members.{count_none, count_le}
use Rattle.sets.proofs.Rising.{members_le}
use Rattle.decision.proofs.CodeLaws.{size_none, size_more}
use borrow.Author.Rules.{rules}
use Rattle.decision.proofs.logs.size.Goals as goal

pub returns-then-more-eq0 : goal.returns-then-more-eq0
returns-then-more-eq0 c =
    (ap (λ (n : ℕ). n + 1) (sym (ap count c.if-more-eq0.true ∙ count_none)) ∙ size_more c.args.x c.rest-more.result c.ranges.x.fits c.if-x-eq0.false c.rest-more.ensures, omega arith)

pub returns : goal.returns
returns c =
    let e : 1 + count c.rest-more.result ≡ count c.rest-more.result + 1 = omega arith in
    let f : 1 + c.count.result ≡ length (members c.args.x) = ap (λ (n : ℕ). 1 + n) c.count.ensures ∙ e ∙ size_more c.args.x c.rest-more.result c.ranges.x.fits c.if-x-eq0.false c.rest-more.ensures in
    (f, rw f (members_le c.args.x c.ranges.x.fits))

pub returns-then-x-eq0 : goal.returns-then-x-eq0
returns-then-x-eq0 c = (rw c.if-x-eq0.true size_none, omega arith)

pub overflow_add-result : goal.overflow_add-result
overflow_add-result c = omega (arith, c.count.ensures, count_le c.rest-more.result (search rules))

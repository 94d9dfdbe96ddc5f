-- `rest` takes the lowest digit that is 1.
use native.Mathlib.Omega.{arith}
use mathlib.Core.Path.{sym}
use borrow.Author.Rules.{rules}
use Rattle.sets.specs.Sets.{lowest, ◌∩◌}
use Rattle.sets.proofs.Members.{rest_is, rest_none}
use Rattle.sets.proofs.rest.Goals as goal

pub returns-then-x-eq0 : goal.returns-then-x-eq0
returns-then-x-eq0 c = rw c.if-x-eq0.true (sym (rest_none (lowest 0)))

pub returns : goal.returns
unfolding ◌∩◌
returns c = rest_is c.args.x (search rules) (omega (arith, c.if-x-eq0.false))

pub overflow_sub-result : goal.overflow_sub-result
overflow_sub-result c = omega (arith, c.if-x-eq0.false)

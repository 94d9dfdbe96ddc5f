-- Where a set is not empty, its lowest member is below 64, and what is left has one member less.
use Rattle.std.proofs.Common.{◌≡◌, ◌+◌, ◌<◌, ◌^◌, ap, arith, rules}
use Rattle.sets.specs.Sets.{lowest, count, without}
use Rattle.sets.proofs.Members.{has_lt, lowest_has, count_less}
use Rattle.sets.proofs.iter.MembersIterator.next.Goals as goal

pub overflow_cast-member : goal.overflow_cast-member
overflow_cast-member c =
    let x = c.args.self.now.left in
    let in_range : x < 2 ^ 64 = search rules in
    let below = has_lt x (lowest x) in_range (lowest_has x in_range (omega (arith, c.if-self-eq0.false))) in
    omega (arith, below, c.lowest-member.ensures)

pub returns-clause-goes : goal.returns-clause-goes
returns-clause-goes c =
    let x = c.args.self.now.left in
    let in_range : x < 2 ^ 64 = search rules in
    let less : count x ≡ count (without x (lowest x)) + 1 = count_less x (lowest x) in_range (lowest_has x in_range (omega (arith, c.if-self-eq0.false))) in
    let left : count c.rest-self.result ≡ count (without x (lowest x)) = ap count c.rest-self.ensures in
    record { on = λ _. (search rules, search rules, omega (arith, less, left)); keeps = search rules; rests = search rules }

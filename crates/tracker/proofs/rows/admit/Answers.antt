-- A call of no kind is refused by its first test.
use Rattle.std.proofs.Common.{rules}
use Rattle.flow.specs.Lists.{first_that}
use Rattle.flow.specs.Refusals.{call_tests}
use Rattle.tracker.proofs.rows.admit.Goals as goal

pub returns-in_err-known-clause-tested : goal.returns-in_err-known-clause-tested
unfolding call_tests first_that
returns-in_err-known-clause-tested c = rw c.in_err-known.ensures.0 (search rules)

use Rattle.std.proofs.Common.{rules}
use Rattle.flow.specs.Records.{call_from, call_by}
use Rattle.terms.proofs.call.KnownCallTryFromCall.try_from.Goals as goal

pub returns : goal.returns
unfolding call_from call_by
returns c = rw c.in_ok-try_from.ensures (search rules)

pub returns-in_err-try_from : goal.returns-in_err-try_from
unfolding call_from call_by
returns-in_err-try_from c = search rules

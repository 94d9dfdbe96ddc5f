-- `number` is the result.
use Rattle.std.proofs.Common.{◌∙◌}
use Rattle.runlog.proofs.RunLaws.{reply_number}
use Rattle.runlog.proofs.number.Goals as goal

pub returns : goal.returns
returns c = λ n h. c.unwrap_or.ensures ∙ reply_number _ n h

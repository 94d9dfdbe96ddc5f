-- `give` tells a result from a refusal.
use Rattle.std.proofs.Common.{refl}
use Rattle.tracker.specs.Replies.{reply_of}
use Rattle.hook.specs.Codes.{Given}
use Rattle.hook.proofs.give.Goals as goal

pub returns-in-Ok : goal.returns-in-Ok
unfolding Given reply_of
returns-in-Ok c = rw c.in-Ok.is (refl, refl)

pub returns-in-Err : goal.returns-in-Err
unfolding Given reply_of
returns-in-Err c = rw c.in-Err.is (c.number.ensures, refl)

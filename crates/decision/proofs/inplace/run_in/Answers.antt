-- `run_in` answers record after record; each has room for its code.
use mathlib.Core.Path.{◌≡◌, sym, ap, ◌∙◌}
use borrow.Author.Tests.{leb-true}
use borrow.Author.Rules.{rules}
use Rattle.flow.specs.Records.{records_of}
use Rattle.logreader.specs.Rest.{rest}
use Rattle.logreader.proofs.RestLaws.{rest_start}
use Rattle.decision.proofs.LogLaws.{run_start, run_more, run_end, run_refused}
use Rattle.decision.proofs.inplace.run_in.Goals as goal

pub returns-then-not-has_room : goal.returns-then-not-has_room
returns-then-not-has_room c = run_refused _ _ _ (sym c.has_room.ensures ∙ c.if-not-has_room.true)

pub loop-record-init : goal.loop-record-init
loop-record-init c =
    let e : rest c.into_iter-record-iterator.result ≡ records_of c.args.log.now = ap rest c.into_iter-record-iterator.ensures.into_iter_gives ∙ rest_start _ _ c.new-record-items.ensures in
    (rw e (run_start _ _ _ (leb-true _ _ (sym c.has_room.ensures ∙ c.if-not-has_room.false))), search rules)

pub loop-record-preserved : goal.loop-record-preserved
loop-record-preserved c =
    (run_more c.loop-record.invariant.0 _ _ c.in-Some.ensures.steps _ c.answer_code.ensures.promised _ c.answer_code.ensures.code, c.loop-record.invariant.1)

pub returns : goal.returns
returns c = run_end _ c.loop-record.invariant.0 c.in-None.ensures.steps.0

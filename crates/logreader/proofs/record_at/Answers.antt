-- `record_at` asks how far the record goes.
use native.Mathlib.Omega.{arith}
use Rattle.logreader.proofs.PlaceLaws.{end_at, found_at}
use Rattle.records.proofs.RecordLaws.{tail_fits}
use Rattle.logreader.proofs.record_at.Goals as goal

pub returns-then-log-at : goal.returns-then-log-at
returns-then-log-at c = end_at _ _ c.if-log-at.true

pub overflow_add-result : goal.overflow_add-result
overflow_add-result c = omega (arith, tail_fits c.args.log.now c.args.at c.extent.result c.extent.ensures (omega arith))

pub returns : goal.returns
returns c = found_at _ _ _ c.if-log-at.false c.extent.ensures

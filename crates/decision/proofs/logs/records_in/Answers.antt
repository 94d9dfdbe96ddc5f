-- `records_in` counts what a reader gives.
use native.Mathlib.Omega.{arith}
use mathlib.Core.Path.{◌≡◌, ap, ◌∙◌}
use mathlib.Core.Logic.{inl}
use lib.ListN.{length}
use Rattle.flow.specs.Records.{records_of}
use Rattle.logreader.specs.Rest.{rest}
use Rattle.logreader.proofs.RestLaws.{rest_start}
use Rattle.decision.proofs.LogLaws.{records_bound, counted}
use Rattle.decision.proofs.logs.records_in.Goals as goal

pub count-requires-clause-fits : goal.count-requires-clause-fits
count-requires-clause-fits c =
    let e : rest c.new.result ≡ records_of c.args.log.now = rest_start _ _ c.new.ensures in
    inl (rw e (omega (arith, records_bound c.args.log.now)))

pub returns : goal.returns
returns c =
    let r = c.count.ensures.ran in
    r.2 ∙ counted r.0 _ _ r.1.1.1 r.1.1.2.0 ∙ ap length (rest_start _ _ c.new.ensures)

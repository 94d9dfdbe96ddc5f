use Prim.Native.Nat.{◌*◌, ◌<◌, ◌^◌}
use lib.ListN.{length}
use Rattle.flow.specs.Records.{records_of}
use Rattle.logreader.specs.Rest.{rest}
use Rattle.decision.proofs.LogLaws.{Running}
use Rattle.decision.proofs.inplace.run_in.Given as goal

abbrev pub invariant-loop-record : goal.invariant-loop-record
invariant-loop-record l =
    Running l.initial.m (records_of l.log) l.initial.codes l.m (rest l.record-iterator) l.n l.codes × (4 * length l.initial.codes < 2 ^ 64)

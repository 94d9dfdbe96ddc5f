-- `cut_short` is the test of document 01.
use Rattle.flow.specs.Records.{record_length, cut_short}
use Rattle.records.proofs.cut_short.Goals as goal

pub returns : goal.returns
unfolding cut_short record_length
returns c = cc

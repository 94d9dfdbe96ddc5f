-- What a log reader has before it.
use Rattle.std.specs.Prelude.{ℕ, List, drop}
use Rattle.flow.specs.Records.{records_of}
use Rattle.logreader.specs.declared.LogReader.{LogReader}

-- the records from its place on
unfoldable pub rest : LogReader → List (List ℕ)
rest r = records_of (drop r.at r.log.now)

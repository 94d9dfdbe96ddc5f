-- `answers` runs the log on a fresh monitor.
use Rattle.runlog.proofs.RunLaws.{front_codes}
use Rattle.runlog.proofs.answers.Goals as goal

pub returns : goal.returns
returns c = λ h g. front_codes _ _ _ _ _ _ c.new-m.ensures c.run-ran.ensures c.number.ensures h g

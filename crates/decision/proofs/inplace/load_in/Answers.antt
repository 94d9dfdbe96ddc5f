-- `load_in` answers what `load` came to.
use Rattle.decision.specs.Answers.{loaded_by}
use Rattle.decision.proofs.inplace.load_in.Goals as goal

pub returns-in-Ok-clause-answers : goal.returns-in-Ok-clause-answers
unfolding loaded_by
returns-in-Ok-clause-answers c = rw c.in-Ok.is at c.load.ensures.answers

pub returns-in-Err-clause-answers : goal.returns-in-Err-clause-answers
unfolding loaded_by
returns-in-Err-clause-answers c = rw c.in-Err.is at c.load.ensures.answers

-- `answer_in` goes by what was read.
use mathlib.Core.Path.{refl}
use Rattle.flow.specs.Lists.{first_that}
use Rattle.flow.specs.Refusals.{tests_of}
use Rattle.records.specs.Reading.{reading_of}
use Rattle.decision.proofs.AnswerLaws.{refused_as, by_reading}
use Rattle.decision.proofs.inplace.answer_in.Goals as goal

pub returns-in-Ok-Call : goal.returns-in-Ok-Call
unfolding reading_of
returns-in-Ok-Call c = by_reading _ _ _ _ (rw c.in-Ok-Call.field-0-is at c.in-Ok-Call.ensures) c.call_in.ensures.answers

pub returns-in-Err : goal.returns-in-Err
unfolding reading_of tests_of first_that
returns-in-Err c = by_reading _ _ _ _ c.in-Err.ensures (refused_as _ _ _ refl)

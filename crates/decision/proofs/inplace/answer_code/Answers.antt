-- `answer_code` goes by what was read, as `answer_in` does.
use mathlib.Core.Path.{refl}
use Rattle.flow.specs.Lists.{first_that}
use Rattle.flow.specs.Refusals.{tests_of}
use Rattle.records.specs.Reading.{reading_of}
use Rattle.decision.specs.declared.Answer.TheVariants.{Refused}
use Rattle.decision.proofs.AnswerLaws.{refused_as, by_reading}
use Rattle.decision.proofs.inplace.answer_code.Goals as goal

pub returns-in-Ok-Call : goal.returns-in-Ok-Call
unfolding reading_of
returns-in-Ok-Call c =
    record {
      answer = c.call_code.ensures.coded.answer;
      code = c.call_code.ensures.coded.code;
      promised = by_reading _ _ _ _ (rw c.in-Ok-Call.field-0-is at c.in-Ok-Call.ensures) c.call_code.ensures.coded.promised;
    }

pub returns-in-Err : goal.returns-in-Err
unfolding reading_of tests_of first_that
returns-in-Err c =
    record {
      answer = Refused _;
      code = c.code-in-Err.ensures;
      promised = by_reading _ _ _ _ c.in-Err.ensures (refused_as _ _ _ refl);
    }

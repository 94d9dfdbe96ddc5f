-- The numbers of an answer are bytes, whatever the sound monitor and the record, so that its code tells the very answer (Logs, `CodesTell`).
use Rattle.std.specs.Prelude.{ℕ, ◌≡◌, List, map}
use Rattle.flow.specs.Verdicts.{run_log}
use Rattle.decision.specs.declared.Monitor.{Monitor}
use Rattle.decision.specs.declared.Answered.{Answered}
use Rattle.decision.specs.View.{view}
use Rattle.decision.specs.Answers.{Sound, AnswersRecord, AnswersCall}
use Rattle.decision.specs.Logs.{word_from, InBytes, codes_of}

-- what `Monitor::answer` and `Monitor::call` promise leaves no other answer
unfoldable pub AnswersInBytes : Type 0
AnswersInBytes =
    ((m : Monitor) (bytes : List ℕ) (r : Answered) → AnswersRecord m bytes r → Sound m → InBytes r.answer)
    × ((m : Monitor) (kind p a b c : ℕ) (r : Answered) → AnswersCall m kind p a b c r → Sound m → InBytes r.answer)

-- the codes that `Monitor::run` writes tell the answers of the log
unfoldable pub LogCodesTell : Type 0
LogCodesTell = (m : Monitor) (log : List ℕ) → map word_from (codes_of (run_log (view m) log).answers) ≡ (run_log (view m) log).answers

-- 02, Paper 3, of the code that runs: no answer or state changes from document 01's form of map both.
use Rattle.std.specs.Prelude.{ℕ, ◌≡◌, List}
use Rattle.flow.specs.Verdicts.{answer_of}
use Rattle.flow.specs.Contents.{Step, entry, step_at}
use Rattle.flow.specs.AtOnce.{outcome_at_once, state_at_once}
use Rattle.decision.specs.declared.Monitor.{Monitor}
use Rattle.decision.specs.declared.Answer.{Answer}
use Rattle.decision.specs.View.{view}
use Rattle.decision.specs.Answers.{word_of}
use Rattle.decision.specs.TwoRuns.{Chain}

-- At every moment of a chain the tracker stands for the state that document 01's form makes, and a record's answer is that form's.
unfoldable pub FormsAgreeOfCode : Type 0
FormsAgreeOfCode =
    (steps : List Step) (x : ℕ → Monitor) (a : ℕ → Answer) → Chain steps x a
    → (k : ℕ) → (view (x k) ≡ state_at_once steps k)
    × ((bytes : List ℕ) → step_at steps k ≡ entry bytes → word_of (a k) ≡ answer_of (outcome_at_once (state_at_once steps k) bytes))

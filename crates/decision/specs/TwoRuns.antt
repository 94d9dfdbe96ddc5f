-- Demand 3 of the request (with 01, The contents in demand 3), of the code that runs. Trackers are related to each other by nothing but what
-- the functions promise: `IsFresh` is the ensures of `Monitor::new`, `AnswersRecord` that of `Monitor::answer`, `AnswersItems` that of
-- `Monitor::items`, `AnswersLog` that of `Monitor::run`.
use Rattle.std.specs.Prelude.{ℕ, suc, ◌≤◌, ◌<◌, ◌≡◌, ◌⊎◌, Bool, true, false, List, ◌++◌, map, length, Ok}
use Rattle.sets.specs.Sets.{has}
use Rattle.flow.specs.Box.{container_count, item_count, Rule}
use Rattle.flow.specs.Rules.{forbids}
use Rattle.flow.specs.Records.{a_rule, reading, records_of}
use Rattle.flow.specs.Contents.{Step, entry, memory, Machine, run_at, step_at, state_at}
use Rattle.flow.specs.TwoRuns.{Agree}
use Rattle.decision.specs.declared.Monitor.{Monitor}
use Rattle.decision.specs.declared.Answer.{Answer}
use Rattle.decision.specs.declared.Answer.TheVariants.{Loaded}
use Rattle.decision.specs.declared.RunResult.{RunResult}
use Rattle.decision.specs.View.{view}
use Rattle.decision.specs.Answers.{IsFresh, AnswersRecord, AnswersItems}
use Rattle.decision.specs.Logs.{room_for, AnswersLog}

-- A chain over a list of steps: x k is the tracker at moment k, and a n the answer to step n where that is a record. The first tracker is
-- fresh, each record meets its tracker as the one before left it, and a memory step leaves the tracker alone. There is a chain for each list
-- of steps (Chains, `ChainExists`), and a call by the hook is a record (`HookIsStep`).
pub record Chain (steps : List Step) (x : ℕ → Monitor) (a : ℕ → Answer) : Type 0 where
  pub made : IsFresh (x 0)
  pub answers : (n : ℕ) (bytes : List ℕ) → step_at steps n ≡ entry bytes → AnswersRecord (x n) bytes (record { answer = a n; monitor = x (suc n) })
  pub rests : (n : ℕ) → step_at steps n ≡ memory → x (suc n) ≡ x n

-- recorded as holding none of the chosen items: whatever the items query may answer has none of them
unfoldable pub AnswersWithout : (ℕ → Bool) → Monitor → ℕ → Type 0
AnswersWithout chosen m c = (w : ℕ) → AnswersItems m c (Ok w) → (i : ℕ) → i < item_count → chosen i ≡ true → has w i ≡ false

-- by moment j a rule that forbids container c item i was loaded: its record answered "rule"
pub record LoadedAgainst (steps : List Step) (a : ℕ → Answer) (j c i : ℕ) : Type 0 where
  pub place : ℕ
  pub earlier : place < j
  pub bytes : List ℕ
  pub is_record : step_at steps place ≡ entry bytes
  pub number : ℕ
  pub answered : a place ≡ Loaded number
  pub loaded : Rule
  pub is_rule : reading bytes ≡ a_rule loaded
  pub forbidden : forbids loaded.condition c i ≡ true

-- the rules loaded by moment j forbid container c every chosen item
unfoldable pub RulesLoadedForbid : (ℕ → Bool) → List Step → (ℕ → Answer) → ℕ → ℕ → Type 0
RulesLoadedForbid chosen steps a j c = (i : ℕ) → i < item_count → chosen i ≡ true → LoadedAgainst steps a j c i

-- Two fresh trackers get the same list of steps; the contents are those of the plain machine, which is defined apart from the code, and only
-- the inputs may differ. At every moment k each container recorded, by either tracker, as holding none of the chosen items has equal contents
-- in both runs. So has each that rules loaded by some moment j, no later than k, forbid every chosen item.
unfoldable pub Demand3OfCode : Type 1
Demand3OfCode =
    (W : Type 0) (m : Machine W) (chosen : ℕ → Bool) (steps : List Step) (in₁ in₂ : ℕ → W) → Agree chosen steps in₁ in₂
    → (x y : ℕ → Monitor) (a b : ℕ → Answer) → Chain steps x a → Chain steps y b
    → (k : ℕ) → k ≤ length steps → (c : ℕ) → c < container_count
    → (AnswersWithout chosen (x k) c ⊎ AnswersWithout chosen (y k) c → (run_at m in₁ steps k).contents c ≡ (run_at m in₂ steps k).contents c)
    × ((j : ℕ) → j ≤ k → RulesLoadedForbid chosen steps a j c ⊎ RulesLoadedForbid chosen steps b j c → (run_at m in₁ steps k).contents c ≡ (run_at m in₂ steps k).contents c)

-- A whole log that `Monitor::run` answers goes on the list: after a chain, it leaves the state that the list has with the log's records added,
-- as if they had been answered one by one. So the list may run over several logs.
unfoldable pub LogsGoOn : Type 0
LogsGoOn =
    (steps : List Step) (x : ℕ → Monitor) (a : ℕ → Answer) → Chain steps x a
    → (log before now : List ℕ) (r : RunResult) → AnswersLog (x (length steps)) log before r now → room_for log before ≡ true
    → (let more = steps ++ map entry (records_of log) in view r.monitor ≡ state_at more (length more))

-- What the code of an answer tells, and demand 3 of a kernel that links these functions. Monitors are related to each other by nothing but
-- what the functions for C promise: `IsFresh` is the ensures of pomtvia_new, `Coded (AnswersRecord ..)` that of pomtvia_answer_in,
-- `Coded (AnswersCall ..)` that of pomtvia_on_call and pomtvia_call, `AnswersLogGiven` that of pomtvia_run_in, `ItemsGiven` that of pomtvia_items.
use Rattle.std.specs.Prelude.{ℕ, suc, ◌^◌, ◌≤◌, ◌<◌, ◌≡◌, ◌⊎◌, Bool, true, false, List, map, get_or, length, take}
use Rattle.sets.specs.Sets.{has}
use Rattle.flow.specs.Box.{container_count, item_count}
use Rattle.flow.specs.Verdicts.{Answer as Word, Outcome, answer_of, outcome, run_log}
use Rattle.flow.specs.Contents.{Machine, step_at, run_at}
use Rattle.flow.specs.TwoRuns.{Agree}
use Rattle.decision.specs.declared.Monitor.{Monitor}
use Rattle.decision.specs.View.{view}
use Rattle.decision.specs.Answers.{Sound, IsFresh, AnswersRecord, AnswersCall}
use Rattle.decision.specs.Logs.{code_of, word_from, codes_of, Coded}
use Rattle.decision.specs.Chains.{call_record, Holdable, OfBytes, given, called, moves, Operation, event, run, short, all_steps, moment, operation_at, told, RulesToldForbid}
use Rattle.hook.specs.Codes.{AnswersLogGiven, ItemsGiven}

-- ---- the number n is the code of what the outcome answers, and tells it
pub record Tells (n : ℕ) (o : Outcome) : Type 0 where
  pub code : n ≡ code_of (answer_of o)
  pub word : word_from n ≡ answer_of o

-- the numbers are the codes of these answers, and tell them
pub record TellAll (numbers : List ℕ) (answers : List Word) : Type 0 where
  pub codes : numbers ≡ codes_of answers
  pub words : map word_from numbers ≡ answers

-- whatever answer a promise of a code hides, the code tells the very answer, whatever the sound monitor; and where a log returned 0, as many
-- codes as it counted tell the answers of its records
unfoldable pub CodesTellAnswers : Type 0
CodesTellAnswers =
    ((m m' : Monitor) (bytes : List ℕ) (n : ℕ) → Coded (AnswersRecord m bytes) n m' → Sound m → Tells n (outcome (view m) bytes))
    × ((m m' : Monitor) (kind p a b c n : ℕ) → Coded (AnswersCall m kind p a b c) n m' → Sound m → Tells n (outcome (view m) (call_record kind p a b c)))
    × ((m m' : Monitor) (log codes codes' : List ℕ) (count count' : ℕ) → AnswersLogGiven m log codes count 0 m' codes' count' → Sound m
    → TellAll (take count' codes') (run_log (view m) log).answers)

-- ---- a kernel's chain
-- pomtvia_run_in on a log and some slice: n is what it returned, `codes` the slice after it
pub record RunGiven (m : Monitor) (log : List ℕ) (n : ℕ) (codes : List ℕ) (next : Monitor) : Type 0 where
  pub before : List ℕ
  pub count : ℕ
  pub counted : ℕ
  pub answers : AnswersLogGiven m log before count n next codes counted

-- what the functions promise for an operation on the monitor m: the number returned, the codes of a log, and the monitor after it. A log that
-- returned 0 had room for its codes, and one that returned 13 had too little.
unfoldable pub OperationGiven : Operation → Monitor → ℕ → List ℕ → Monitor → Type 0
OperationGiven (event (given bytes)) m n codes next = Coded (AnswersRecord m bytes) n next
OperationGiven (event (called kind p d e f)) m n codes next = Coded (AnswersCall m kind p d e f) n next
OperationGiven (event moves) m n codes next = next ≡ m
OperationGiven (run log) m n codes next = (n ≡ 0) × RunGiven m log n codes next
OperationGiven (short log some) m n codes next = (n ≡ 13) × RunGiven m log n codes next

-- x n is the monitor before operation n, returned n what the function called for it returned, and codes n the slice of codes after a log
pub record KernelChain (os : List Operation) (x : ℕ → Monitor) (returned : ℕ → ℕ) (codes : ℕ → List ℕ) : Type 0 where
  pub made : IsFresh (x 0)
  pub answers : (n : ℕ) → OperationGiven (operation_at os n) (x n) (returned n) (codes n) (x (suc n))

-- there is one for each list of operations; where its records are of bytes, the monitors are values of the code's type, and the numbers
-- returned and the codes always are
pub record KernelChainOver (os : List Operation) : Type 0 where
  pub x : ℕ → Monitor
  pub returned : ℕ → ℕ
  pub codes : ℕ → List ℕ
  pub chain : KernelChain os x returned codes
  pub told : (n : ℕ) → returned n < 2 ^ 32
  pub coded : (n k : ℕ) → get_or (codes n) k 0 < 2 ^ 32
  pub holdable : ((n : ℕ) → OfBytes (step_at (all_steps os) n)) → (n : ℕ) → Holdable (x n)

unfoldable pub KernelChainExists : Type 0
KernelChainExists = (os : List Operation) → KernelChainOver os

-- recorded as holding none of the chosen items: whatever set the items query may give has none of them
unfoldable pub GivenWithout : (ℕ → Bool) → Monitor → ℕ → Type 0
GivenWithout chosen m c = (before w : ℕ) → ItemsGiven m c before 0 w → (i : ℕ) → i < item_count → chosen i ≡ true → has w i ≡ false

-- the words told to all steps, by the numbers returned and the codes of logs
abbrev pub told_by_code : List Operation → (ℕ → ℕ) → (ℕ → List ℕ) → List Word
told_by_code os returned codes = told os (λ n. word_from (returned n)) codes

-- Demand 3 of a kernel: two fresh monitors get the same records, calls, whole logs and memory moves in one order, and only the inputs may
-- differ. Before every operation, and after the last, each container that the items query of either gives none of the chosen items has equal
-- contents in both runs; of events alone, that is every moment (`EventsAreSteps`). At every moment k, also within a log, so has each that rules
-- forbid every chosen item whose codes told by some moment j, no later than k, that they were loaded.
unfoldable pub Demand3OfKernel : Type 1
Demand3OfKernel =
    (W : Type 0) (m : Machine W) (chosen : ℕ → Bool) (os : List Operation) (in₁ in₂ : ℕ → W) → Agree chosen (all_steps os) in₁ in₂
    → (x y : ℕ → Monitor) (a b : ℕ → ℕ) (f g : ℕ → List ℕ) → KernelChain os x a f → KernelChain os y b g
    → (let steps = all_steps os in
    (c : ℕ) → c < container_count
    → ((n : ℕ) → GivenWithout chosen (x n) c ⊎ GivenWithout chosen (y n) c
    → (run_at m in₁ steps (moment os n)).contents c ≡ (run_at m in₂ steps (moment os n)).contents c)
    × ((j k : ℕ) → j ≤ k → k ≤ length steps → RulesToldForbid chosen steps (told_by_code os a f) j c ⊎ RulesToldForbid chosen steps (told_by_code os b g) j c
    → (run_at m in₁ steps k).contents c ≡ (run_at m in₂ steps k).contents c))

-- That there is a chain for each list of steps, that a call by the hook is a step of one, and that a whole log is its records (`Chain` and
-- demand 3 of the code: TwoRuns).
use Rattle.std.specs.Prelude.{ℕ, suc, ◌^◌, ◌≤◌, ◌<◌, ◌≡◌, ◌⊎◌, ◌↔◌, Bool, true, false, List, [], ◌∷◌, ◌++◌, map, get_or, length, take}
use Rattle.flow.specs.Box.{container_count, item_count, Rule}
use Rattle.flow.specs.Rules.{forbids}
use Rattle.flow.specs.Records.{call_tag, a_rule, reading, records_of}
use Rattle.flow.specs.Verdicts.{Answer as Word, rule, allow, answer}
use Rattle.flow.specs.Contents.{Step, entry, memory, Machine, run_at, step_at, state_at}
use Rattle.flow.specs.TwoRuns.{Agree}
use Rattle.tracker.specs.Replies.{Reply}
use Rattle.decision.specs.declared.Monitor.{Monitor}
use Rattle.decision.specs.declared.Answer.{Answer}
use Rattle.decision.specs.declared.Answered.{Answered}
use Rattle.decision.specs.View.{view}
use Rattle.decision.specs.Answers.{word_of, Sound, IsFresh, AnswersRecord, AnswersCall}
use Rattle.decision.specs.Logs.{word_from, InBytes, room_for, AnswersLog}
use Rattle.decision.specs.TwoRuns.{Chain, AnswersWithout, RulesLoadedForbid}

-- ---- the values of the code's types
-- n numbers below the limit
pub record Numbers (n limit : ℕ) (l : List ℕ) : Type 0 where
  pub size : length l ≡ n
  pub fits : (k : ℕ) → get_or l k 0 < limit

-- what the code's `Monitor` can hold: arrays of its lengths, of numbers of its widths
pub record Holdable (m : Monitor) : Type 0 where
  pub words : Numbers 353 (2 ^ 64) m.tracker.words
  pub descriptors : Numbers 512 256 m.tracker.descriptors
  pub names : Numbers 128 256 m.tracker.names
  pub sets : Numbers 32 (2 ^ 64) m.rules.sets
  pub fields : Numbers 129 256 m.rules.fields

-- a record of bytes
unfoldable pub OfBytes : Step → Type 0
OfBytes (entry bytes) = (k : ℕ) → get_or bytes k 0 < 256
OfBytes memory = Unit {0}

-- ---- a chain, its trackers and its answers; where the records are of bytes, its trackers are values of the code's type. Its answers always are.
pub record ChainOver (steps : List Step) : Type 0 where
  pub x : ℕ → Monitor
  pub a : ℕ → Answer
  pub chain : Chain steps x a
  pub told : (n : ℕ) → InBytes (a n)
  pub holdable : ((n : ℕ) → OfBytes (step_at steps n)) → (k : ℕ) → Holdable (x k)

unfoldable pub ChainExists : Type 0
ChainExists = (steps : List Step) → ChainOver steps

-- ---- a call by the hook
-- the record of a call: its tag, its length in two bytes, its five fields
unfoldable pub call_record : ℕ → ℕ → ℕ → ℕ → ℕ → List ℕ
call_record kind p a b c = call_tag ∷ 0 ∷ 5 ∷ kind ∷ p ∷ a ∷ b ∷ c ∷ []

-- what `Monitor::call` promises for five numbers is what `Monitor::answer` promises for their record
unfoldable pub CallIsRecord : Type 0
CallIsRecord = (m : Monitor) (kind p a b c : ℕ) (r : Answered) → AnswersCall m kind p a b c r ↔ AnswersRecord m (call_record kind p a b c) r

-- what a kernel does: it hands over a record, it calls the hook (kind, process, a, b, c), or mapped memory moves contents
pub data Event : Type 0 where
  given : List ℕ → Event
  called : ℕ → ℕ → ℕ → ℕ → ℕ → Event
  moves : Event

unfoldable pub step_of : Event → Step
step_of (given bytes) = entry bytes
step_of (called kind p a b c) = entry (call_record kind p a b c)
step_of moves = memory

abbrev pub event_at : List Event → ℕ → Event
event_at events n = get_or events n moves

-- a chain whose steps are records, answered by `Monitor::answer`, and calls, answered by `Monitor::call`
pub record MixedChain (events : List Event) (x : ℕ → Monitor) (a : ℕ → Answer) : Type 0 where
  pub made : IsFresh (x 0)
  pub answers : (n : ℕ) (bytes : List ℕ) → event_at events n ≡ given bytes → AnswersRecord (x n) bytes (record { answer = a n; monitor = x (suc n) })
  pub calls : (n kind p d e f : ℕ) → event_at events n ≡ called kind p d e f → AnswersCall (x n) kind p d e f (record { answer = a n; monitor = x (suc n) })
  pub rests : (n : ℕ) → event_at events n ≡ moves → x (suc n) ≡ x n

-- it is a chain over the records of its calls
unfoldable pub HookIsStep : Type 0
HookIsStep = (events : List Event) (x : ℕ → Monitor) (a : ℕ → Answer) → MixedChain events x a ↔ Chain (map step_of events) x a

-- Demand 3 of a kernel that uses the hook: two monitors, each fresh, get the same records, calls by the hook and memory moves, in one order,
-- and only the inputs may differ; at every moment each container recorded by either as holding none of the chosen items, or forbidden all of
-- them by rules loaded by then, has equal contents in both runs.
unfoldable pub Demand3OfHook : Type 1
Demand3OfHook =
    (W : Type 0) (m : Machine W) (chosen : ℕ → Bool) (events : List Event) (in₁ in₂ : ℕ → W) → Agree chosen (map step_of events) in₁ in₂
    → (x y : ℕ → Monitor) (a b : ℕ → Answer) → MixedChain events x a → MixedChain events y b
    → (let steps = map step_of events in
    (k : ℕ) → k ≤ length events → (c : ℕ) → c < container_count
    → (AnswersWithout chosen (x k) c ⊎ AnswersWithout chosen (y k) c → (run_at m in₁ steps k).contents c ≡ (run_at m in₂ steps k).contents c)
    × ((j : ℕ) → j ≤ k → RulesLoadedForbid chosen steps a j c ⊎ RulesLoadedForbid chosen steps b j c → (run_at m in₁ steps k).contents c ≡ (run_at m in₂ steps k).contents c))

-- ---- whole logs
-- what a kernel does: an event; a whole log that it hands over, with room for its codes; or a log of some records with too little room
pub data Operation : Type 0 where
  event : Event → Operation
  run : List ℕ → Operation
  short : (log : List ℕ) → 0 < length (records_of log) → Operation

-- a log stands for its records, and for none where the room is too little
unfoldable pub steps_of : Operation → List Step
steps_of (event e) = step_of e ∷ []
steps_of (run log) = map entry (records_of log)
steps_of (short log some) = []

unfoldable pub all_steps : List Operation → List Step
all_steps [] = []
all_steps (o ∷ os) = steps_of o ++ all_steps os

-- the moment at which operation n starts
unfoldable pub moment : List Operation → ℕ → ℕ
moment os n = length (all_steps (take n os))

abbrev pub operation_at : List Operation → ℕ → Operation
operation_at os n = get_or os n (event moves)

-- of events alone, the steps are theirs, and operation n starts at moment n
unfoldable pub EventsAreSteps : Type 0
EventsAreSteps =
    (events : List Event) → (all_steps (map event events) ≡ map step_of events) × ((n : ℕ) → n ≤ length events → moment (map event events) n ≡ n)

-- `Monitor::run` on a log, with room for its codes or without: from the monitor m to the next
pub record AnswersRun (fits : Bool) (m : Monitor) (log codes : List ℕ) (next : Monitor) : Type 0 where
  pub before : List ℕ
  pub reply : Reply
  pub room : room_for log before ≡ fits
  pub answers : AnswersLog m log before (record { reply = reply; monitor = next }) codes

-- what the functions promise for an operation on the monitor m: the answer, or the codes of a log, and the monitor after it
unfoldable pub AnswersOperation : Operation → Monitor → Answer → List ℕ → Monitor → Type 0
AnswersOperation (event (given bytes)) m a codes next = AnswersRecord m bytes (record { answer = a; monitor = next })
AnswersOperation (event (called kind p d e f)) m a codes next = AnswersCall m kind p d e f (record { answer = a; monitor = next })
AnswersOperation (event moves) m a codes next = next ≡ m
AnswersOperation (run log) m a codes next = AnswersRun true m log codes next
AnswersOperation (short log some) m a codes next = AnswersRun false m log codes next

-- a chain of operations: x n is the tracker before operation n
pub record OperationChain (os : List Operation) (x : ℕ → Monitor) (a : ℕ → Answer) (codes : ℕ → List ℕ) : Type 0 where
  pub made : IsFresh (x 0)
  pub answers : (n : ℕ) → AnswersOperation (operation_at os n) (x n) (a n) (codes n) (x (suc n))

-- there is one for each list of operations; where the records are of bytes, its trackers are values of the code's type, and its answers and
-- codes always are
pub record OperationsOver (os : List Operation) : Type 0 where
  pub x : ℕ → Monitor
  pub a : ℕ → Answer
  pub codes : ℕ → List ℕ
  pub chain : OperationChain os x a codes
  pub told : (n : ℕ) → InBytes (a n)
  pub coded : (n k : ℕ) → get_or (codes n) k 0 < 2 ^ 32
  pub holdable : ((n : ℕ) → OfBytes (step_at (all_steps os) n)) → (n : ℕ) → Holdable (x n)

unfoldable pub OperationChainExists : Type 0
OperationChainExists = (os : List Operation) → OperationsOver os

-- the words told to the steps of an operation: the answer w, or what the codes of a log stand for; `allow 0` stands where memory moves, which is
-- told nothing
unfoldable pub told_to : Event → Word → Word
told_to (given bytes) w = w
told_to (called kind p d e f) w = w
told_to moves w = allow 0

unfoldable pub told_by : Operation → Word → List ℕ → List Word
told_by (event e) w codes = told_to e w ∷ []
told_by (run log) w codes = map word_from (take (length (records_of log)) codes)
told_by (short log some) w codes = []

-- to all steps
unfoldable pub told : List Operation → (ℕ → Word) → (ℕ → List ℕ) → List Word
told [] w codes = []
told (o ∷ os) w codes = told_by o (w 0) (codes 0) ++ told os (λ n. w (suc n)) (λ n. codes (suc n))

-- Operations are steps: before each operation the tracker is sound, and its state is that of the steps so far; and each record, also within a
-- log, was told the answer of document 01.
unfoldable pub OperationsAreSteps : Type 0
OperationsAreSteps =
    (os : List Operation) (x : ℕ → Monitor) (a : ℕ → Answer) (codes : ℕ → List ℕ) → OperationChain os x a codes
    → (let steps = all_steps os in
    ((n : ℕ) → Sound (x n) × (view (x n) ≡ state_at steps (moment os n)))
    × ((place : ℕ) (bytes : List ℕ) → step_at steps place ≡ entry bytes → get_or (told os (λ n. word_of (a n)) codes) place (allow 0) ≡ answer (state_at steps place) bytes))

-- by moment j a rule that forbids container c item i was loaded: its record was told "rule"
pub record ToldAgainst (steps : List Step) (words : List Word) (j c i : ℕ) : Type 0 where
  pub place : ℕ
  pub earlier : place < j
  pub bytes : List ℕ
  pub is_record : step_at steps place ≡ entry bytes
  pub number : ℕ
  pub answered : get_or words place (allow 0) ≡ rule number
  pub loaded : Rule
  pub is_rule : reading bytes ≡ a_rule loaded
  pub forbidden : forbids loaded.condition c i ≡ true

unfoldable pub RulesToldForbid : (ℕ → Bool) → List Step → List Word → ℕ → ℕ → Type 0
RulesToldForbid chosen steps words j c = (i : ℕ) → i < item_count → chosen i ≡ true → ToldAgainst steps words j c i

-- Demand 3 of a kernel that also hands over whole logs. What the items query answers is asked before an operation; rules count from the step
-- on that loaded them, also within a log.
unfoldable pub Demand3OfOperations : Type 1
Demand3OfOperations =
    (W : Type 0) (m : Machine W) (chosen : ℕ → Bool) (os : List Operation) (in₁ in₂ : ℕ → W) → Agree chosen (all_steps os) in₁ in₂
    → (x y : ℕ → Monitor) (a b : ℕ → Answer) (f g : ℕ → List ℕ) → OperationChain os x a f → OperationChain os y b g
    → (let steps = all_steps os in
    (c : ℕ) → c < container_count
    → ((n : ℕ) → AnswersWithout chosen (x n) c ⊎ AnswersWithout chosen (y n) c
    → (run_at m in₁ steps (moment os n)).contents c ≡ (run_at m in₂ steps (moment os n)).contents c)
    × ((j k : ℕ) → j ≤ k → k ≤ length steps → RulesToldForbid chosen steps (told os (λ n. word_of (a n)) f) j c ⊎ RulesToldForbid chosen steps (told os (λ n. word_of (b n)) g) j c
    → (run_at m in₁ steps k).contents c ≡ (run_at m in₂ steps k).contents c))

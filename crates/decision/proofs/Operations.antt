-- The operations of a kernel, whole logs among them, are steps. One operation tells its steps the words of the definitions and leaves the state
-- after them (`operation_done`); so the words of all operations are those of all steps (`all_told`), and between two operations the state is
-- that of the steps so far (`state_before`). Demand 3 is said of any two monitors on which the operations are done (`demand3_of_done`).
use Prim.Native.Nat.{ℕ, zero, suc, ◌≤◌, ◌<◌}
use native.Mathlib.Omega.{arith}
use mathlib.Core.Path.{◌≡◌, refl, sym, ap, ap₂, ◌∙◌}
use mathlib.Core.Logic.{◌⊎◌, ⊎_elim}
use mathlib.Core.Bool.{Bool, true}
use mathlib.Core.List.{List, [], ◌∷◌, ◌++◌, map, append_assoc}
use lib.ListN.{get_or, length, take, drop, length-append}
use lib.Seq.{take-nil, take-append_seam}
use Rattle.flow.specs.Box.{container_count, State, fresh}
use Rattle.flow.specs.Records.{records_of}
use Rattle.flow.specs.Verdicts.{Answer as Word, allow, answer, outcome, state_after, Replay, answer_all, run_log}
use Rattle.flow.specs.Contents.{Step, entry, memory, step_state, step_at, state_at, Machine, run_at}
use Rattle.flow.specs.TwoRuns.{Agree, RulesForbid}
use Rattle.decision.specs.declared.Monitor.{Monitor}
use Rattle.decision.specs.declared.Answer.{Answer}
use Rattle.decision.specs.View.{view}
use Rattle.decision.specs.Answers.{word_of, Sound, IsFresh, AnswersRecord}
use Rattle.decision.specs.Logs.{word_from, AnswersLogBy, AnswersLog}
use Rattle.decision.specs.TwoRuns.{AnswersWithout}
use Rattle.decision.specs.Chains.{call_record, CallIsRecord, Event, given, called, moves, step_of, Operation, event, run, short, steps_of, all_steps, moment, operation_at, EventsAreSteps, AnswersRun, AnswersOperation, OperationChain, told_to, told_by, told, OperationsAreSteps, RulesToldForbid, Demand3OfOperations}
use Rattle.decision.specs.Telling.{LogCodesTell}
use Rattle.decision.proofs.TwoRuns.{by_items, by_rules, forbidden_loaded, fresh_sound}
use Rattle.decision.proofs.HookLaws.{call_is_record}
use Rattle.decision.proofs.Telling.{log_codes_tell}

-- ---- the words that steps are told, and the state after them
unfoldable pub word_on : State → Step → Word
word_on s (entry bytes) = answer s bytes
word_on s memory = allow 0

abbrev later : Word → Replay → Replay
later w r = record { answers = w ∷ r.answers; state = r.state }

unfoldable pub replay : State → List Step → Replay
replay s [] = record { answers = []; state = s }
replay s (x ∷ xs) = later (word_on s x) (replay (step_state s x) xs)

abbrev pub state_by : State → List Step → State
state_by s xs = (replay s xs).state

replay_append : (s : State) (xs ys : List Step) → replay s (xs ++ ys) ≡ record { answers = (replay s xs).answers ++ (replay (state_by s xs) ys).answers; state = state_by (state_by s xs) ys }
unfolding replay
replay_append s [] ys = refl
replay_append s (x ∷ xs) ys = ap (later (word_on s x)) (replay_append (step_state s x) xs ys)

-- the records of a log
pub records_replayed : (s : State) (rs : List (List ℕ)) → answer_all s rs ≡ replay s (map entry rs)
unfolding answer_all replay word_on step_state answer
records_replayed s [] = refl
records_replayed s (r ∷ rs) = ap (later (answer s r)) (records_replayed (state_after s (outcome s r)) rs)

-- step k of a list: the state before it, and the word that it is told
state_more : (s : State) (xs : List Step) (k : ℕ) → state_by s (take (suc k) xs) ≡ step_state (state_by s (take k xs)) (step_at xs k)
unfolding replay step_state
state_more s [] k = rw (take-nil {A = Step} k)
state_more s (x ∷ xs) zero = refl
state_more s (x ∷ xs) (suc k) = state_more (step_state s x) xs k

state_at_lem : (xs : List Step) (k : ℕ) → state_at xs k ≡ state_by fresh (take k xs)
unfolding state_at replay
state_at_lem xs zero = refl
state_at_lem xs (suc k) = rw (state_at_lem xs k) (sym (state_more fresh xs k))

word_at : (s : State) (xs : List Step) (k : ℕ) (bytes : List ℕ) → step_at xs k ≡ entry bytes → get_or (replay s xs).answers k (allow 0) ≡ answer (state_by s (take k xs)) bytes
unfolding replay word_on
word_at s [] k bytes e = absurd (let z : ◌≡◌ {A = ℕ} 0 1 = cc in let y : ⊥ = omega arith in y)
word_at s (x ∷ xs) zero bytes e = ap (word_on s) e
word_at s (x ∷ xs) (suc k) bytes e = word_at (step_state s x) xs k bytes e

-- ---- one operation
pub record Done (m : Monitor) (steps : List Step) (words : List Word) (next : Monitor) : Type 0 where
  pub replayed : record { answers = words; state = view next } ≡ replay (view m) steps
  pub sound : Sound next

abbrev joined : {v w : List Word} {s t : State} → v ≡ w → s ≡ t → ◌≡◌ {A = Replay} (record { answers = v; state = s }) (record { answers = w; state = t })
joined e f = ap₂ {C = Replay} (λ (ws : List Word) (u : State). record { answers = ws; state = u }) e f

record_done : (m : Monitor) (bytes : List ℕ) (a : Answer) (next : Monitor) → AnswersRecord m bytes (record { answer = a; monitor = next }) → Sound m
    → Done m (entry bytes ∷ []) (word_of a ∷ []) next
unfolding replay word_on step_state answer outcome
record_done m bytes a next h s = record { replayed = joined (ap (λ (w : Word). w ∷ []) (h.answer s)) (h.state s); sound = h.sound s }

-- what is promised of a log, by the room for its codes
pub answered_by : {b : Bool} {m next : Monitor} {log codes : List ℕ} (h : AnswersRun b m log codes next) → AnswersLogBy b m log h.before (record { reply = h.reply; monitor = next }) codes
unfolding AnswersLog
answered_by h = rw h.room at h.answers

run_done : (m : Monitor) (log codes : List ℕ) (next : Monitor) → AnswersRun true m log codes next → Sound m
    → Done m (map entry (records_of log)) (map word_from (take (length (records_of log)) codes)) next
unfolding AnswersLogBy LogCodesTell run_log
run_done m log codes next h s =
    let d = (answered_by h).3 s in
    record { replayed = joined (ap (map word_from) d.0 ∙ log_codes_tell m log) d.1 ∙ records_replayed (view m) (records_of log); sound = d.2 }

pub operation_done : (o : Operation) (m : Monitor) (a : Answer) (codes : List ℕ) (next : Monitor) → AnswersOperation o m a codes next → Sound m → Done m (steps_of o) (told_by o (word_of a) codes) next
unfolding AnswersOperation AnswersLogBy steps_of step_of told_by told_to CallIsRecord replay word_on step_state
operation_done (event (given bytes)) m a codes next h s = record_done m bytes a next h s
operation_done (event (called kind p d e f)) m a codes next h s = record_done m (call_record kind p d e f) a next ((call_is_record m kind p d e f _).0 h) s
operation_done (event moves) m a codes next h s = record { replayed = joined refl (ap view h); sound = rw h s }
operation_done (run log) m a codes next h s = run_done m log codes next h s
operation_done (short log some) m a codes next h s = let e : next ≡ m = (answered_by h).1 in record { replayed = joined refl (ap view e); sound = rw e s }

-- ---- all operations, from any sound monitor, told the words w and the codes of logs
abbrev pub AllDone : List Operation → (ℕ → Monitor) → (ℕ → Word) → (ℕ → List ℕ) → Type 0
AllDone os x w codes = (n : ℕ) → Sound (x n) → Done (x n) (steps_of (operation_at os n)) (told_by (operation_at os n) (w n) (codes n)) (x (suc n))

all_told : (os : List Operation) (x : ℕ → Monitor) (w : ℕ → Word) (codes : ℕ → List ℕ) → AllDone os x w codes → Sound (x 0)
    → told os w codes ≡ (replay (view (x 0)) (all_steps os)).answers
unfolding told all_steps replay
all_told [] x w codes h s = refl
all_told (o ∷ os) x w codes h s =
    let d : Done (x 0) (steps_of o) (told_by o (w 0) (codes 0)) (x 1) = h 0 s in
    let rest = all_told os (λ n. x (suc n)) (λ n. w (suc n)) (λ n. codes (suc n)) (λ n. h (suc n)) d.sound in
    rw (replay_append (view (x 0)) (steps_of o) (all_steps os), state_by, ← d.replayed) (ap (λ (ws : List Word). told_by o (w 0) (codes 0) ++ ws) rest)

-- ---- the moments at which operations start
split : (os : List Operation) (n : ℕ) → all_steps os ≡ all_steps (take n os) ++ all_steps (drop n os)
unfolding all_steps
split [] zero = refl
split [] (suc n) = refl
split (o ∷ os) zero = refl
split (o ∷ os) (suc n) = rw append_assoc (ap (λ (xs : List Step). steps_of o ++ xs) (split os n))

-- the state after one more operation; past the end of the list memory moves
take_more : (s : State) (os : List Operation) (n : ℕ) → state_by s (all_steps (take (suc n) os)) ≡ state_by (state_by s (all_steps (take n os))) (steps_of (operation_at os n))
unfolding all_steps replay steps_of step_of step_state
take_more s [] n = rw (take-nil {A = Operation} n)
take_more s (o ∷ os) zero = rw (state_by, replay_append s (steps_of o) [])
take_more s (o ∷ os) (suc n) = rw (state_by, replay_append s (steps_of o) (all_steps (take (suc n) os)), replay_append s (steps_of o) (all_steps (take n os))) (take_more (state_by s (steps_of o)) os n)

module _ (os : List Operation) where
  moment_le : (n : ℕ) → moment os n ≤ length (all_steps os)
  unfolding moment
  moment_le n = rw (split os n, length-append (all_steps (take n os)) (all_steps (drop n os))) (omega arith)

  state_moment : (n : ℕ) → state_at (all_steps os) (moment os n) ≡ state_by fresh (all_steps (take n os))
  unfolding moment
  state_moment n = state_at_lem (all_steps os) (moment os n) ∙ ap (state_by fresh) (ap (take (moment os n)) (split os n) ∙ take-append_seam (all_steps (take n os)) (all_steps (drop n os)))

  pub next_moment : (n : ℕ) → state_at (all_steps os) (moment os (suc n)) ≡ state_by (state_at (all_steps os) (moment os n)) (steps_of (operation_at os n))
  next_moment n = rw (state_moment n) (state_moment (suc n) ∙ take_more fresh os n)

-- ---- a fresh monitor on which all operations are done
module _ (os : List Operation) (x : ℕ → Monitor) (w : ℕ → Word) (codes : ℕ → List ℕ) (made : IsFresh (x 0)) (done : AllDone os x w codes) where
  state_before : (n : ℕ) → Sound (x n) × (view (x n) ≡ state_at (all_steps os) (moment os n))
  unfolding moment all_steps state_at
  state_before zero = (fresh_sound (x 0) made, made)
  state_before (suc n) =
      let h = state_before n in
      let d = done n h.0 in
      (d.sound, ap (λ (r : Replay). r.state) d.replayed ∙ ap (λ (s : State). state_by s (steps_of (operation_at os n))) h.1 ∙ sym (next_moment os n))

  told_at : (place : ℕ) (bytes : List ℕ) → step_at (all_steps os) place ≡ entry bytes → get_or (told os w codes) place (allow 0) ≡ answer (state_at (all_steps os) place) bytes
  told_at place bytes e = rw (all_told os x w codes done (fresh_sound (x 0) made), made, state_at_lem (all_steps os) place) (word_at fresh (all_steps os) place bytes e)

  barred : (chosen : ℕ → Bool) (j k : ℕ) → RulesToldForbid chosen (all_steps os) (told os w codes) j k → RulesForbid chosen (state_at (all_steps os) j) k
  unfolding RulesToldForbid RulesForbid
  barred chosen j k h i l m =
      let t = h i l m in
      forbidden_loaded (all_steps os) t.place j t.earlier t.bytes t.is_record t.number
      (sym (told_at t.place t.bytes t.is_record) ∙ t.answered) t.loaded t.is_rule k i t.forbidden

-- demand 3 of two fresh monitors on which the same operations are done
pub demand3_of_done : (W : Type 0) (m : Machine W) (chosen : ℕ → Bool) (os : List Operation) (in₁ in₂ : ℕ → W) → Agree chosen (all_steps os) in₁ in₂
    → (x y : ℕ → Monitor) (v w : ℕ → Word) (f g : ℕ → List ℕ) → IsFresh (x 0) → AllDone os x v f → IsFresh (y 0) → AllDone os y w g
    → (let steps = all_steps os in
    (c : ℕ) → c < container_count
    → ((n : ℕ) → AnswersWithout chosen (x n) c ⊎ AnswersWithout chosen (y n) c
    → (run_at m in₁ steps (moment os n)).contents c ≡ (run_at m in₂ steps (moment os n)).contents c)
    × ((j k : ℕ) → j ≤ k → k ≤ length steps → RulesToldForbid chosen steps (told os v f) j c ⊎ RulesToldForbid chosen steps (told os w g) j c
    → (run_at m in₁ steps k).contents c ≡ (run_at m in₂ steps k).contents c))
demand3_of_done W m chosen os in₁ in₂ agree x y v w f g mx dx my dy c hc =
    let items = by_items m chosen (all_steps os) in₁ in₂ agree c hc in
    let rules = by_rules m chosen (all_steps os) in₁ in₂ agree c hc in (
      λ n. let at = items (moment os n) (moment_le os n) in ⊎_elim (at (x n) (state_before os x v f mx dx n).1) (at (y n) (state_before os y w g my dy n).1),
      λ j k lj lk. ⊎_elim (λ h. rules j k lj lk (barred os x v f mx dx chosen j c h)) (λ h. rules j k lj lk (barred os y w g my dy chosen j c h)),
    )

-- ---- a chain of operations
chain_done : (os : List Operation) (x : ℕ → Monitor) (a : ℕ → Answer) (codes : ℕ → List ℕ) → OperationChain os x a codes → AllDone os x (λ n. word_of (a n)) codes
chain_done os x a codes c n s = operation_done (operation_at os n) (x n) (a n) (codes n) (x (suc n)) (c.answers n) s

pub operations_are_steps : OperationsAreSteps
unfolding OperationsAreSteps
operations_are_steps os x a codes c =
    let w : ℕ → Word = λ n. word_of (a n) in
    let d : AllDone os x w codes = chain_done os x a codes c in
    (state_before os x w codes c.made d, told_at os x w codes c.made d)

pub demand3_of_operations : Demand3OfOperations
unfolding Demand3OfOperations
demand3_of_operations W m chosen os in₁ in₂ agree x y a b f g cx cy =
    demand3_of_done W m chosen os in₁ in₂ agree x y (λ n. word_of (a n)) (λ n. word_of (b n)) f g cx.made (chain_done os x a f cx) cy.made (chain_done os y b g cy)

-- ---- events alone
event_steps : (events : List Event) → all_steps (map event events) ≡ map step_of events
unfolding all_steps steps_of
event_steps [] = refl
event_steps (e ∷ events) = ap (λ (xs : List Step). step_of e ∷ xs) (event_steps events)

event_moment : (events : List Event) (n : ℕ) → n ≤ length events → moment (map event events) n ≡ n
unfolding moment all_steps steps_of
event_moment events zero l = refl
event_moment [] (suc n) l = absurd (let y : ⊥ = omega arith in y)
event_moment (e ∷ events) (suc n) l = ap suc (event_moment events n (omega arith))

pub events_are_steps : EventsAreSteps
unfolding EventsAreSteps
events_are_steps events = (event_steps events, event_moment events)

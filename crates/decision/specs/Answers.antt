-- Document 01, What a record gets: the answers of the code.
use Rattle.std.specs.Prelude.{ℕ, ◌≡◌, ◌↔◌, length, Result, Ok, Err, Some, None}
use Rattle.std.specs.Prelude.{List, Option as Maybe}
use Rattle.std.proofs.Math.Option.{Option, none, some}
use Rattle.sets.specs.Sets.{members}
use Rattle.flow.specs.Lists.{first_that}
use Rattle.flow.specs.Box.{fresh}
use Rattle.flow.specs.Calls.{Call}
use Rattle.flow.specs.Rules.{lowest_broken}
use Rattle.flow.specs.Records.{Reading, a_call, call_from, reading}
use Rattle.flow.specs.Refusals.{tests_of}
use Rattle.flow.specs.Verdicts.{Answer as Word, refused, rule, allow, inhibit, modify, stopped, outcome_of, gained_by, answer_of, state_after}
use Rattle.flow.specs.Gained.{gained}
use Rattle.flow.specs.Queries.{items_query}
use Rattle.terms.specs.declared.refusal.Refusal.{Refusal}
use Rattle.terms.specs.Refusals.{number}
use Rattle.tracker.specs.Replies.{Reply, reply_of}
use Rattle.store.specs.Maps.{items_in, items_by}
use Rattle.tracker.specs.Plans.{plan_for}
use Rattle.tracker.specs.Worked.{given, finished}
use Rattle.rules.specs.Stored.{rule_at}
use Rattle.rules.specs.Judging.{Judged}
use Rattle.decision.specs.declared.Monitor.{Monitor}
use Rattle.decision.specs.declared.Answer.{Answer}
use Rattle.decision.specs.declared.Answer.TheVariants.{Refused, Loaded, Allow, Inhibit, Modify}
use Rattle.decision.specs.declared.Answered.{Answered}
use Rattle.decision.specs.declared.inplace.Diverted.{Diverted}
use Rattle.decision.specs.View.{maps, view}

-- the word and the numbers of each answer; of the set of those that gained, how many
unfoldable pub word_of : Answer → Word
word_of (Refused r) = refused (number r)
word_of (Loaded n) = rule n
word_of (Allow g) = allow (length (members g))
word_of (Inhibit n) = inhibit n
word_of (Modify n c g) = modify n c (length (members g))

-- the containers that gained (02, Paper 5)
unfoldable pub gained_in : Answer → ℕ
gained_in (Refused r) = 0
gained_in (Loaded n) = 0
gained_in (Allow g) = g
gained_in (Inhibit n) = 0
gained_in (Modify n c g) = g

-- the number of the refusal, if there is one
unfoldable pub refusal_in : Answer → Option ℕ
refusal_in (Refused r) = some (number r)
refusal_in (Loaded n) = none
refusal_in (Allow g) = none
refusal_in (Inhibit n) = none
refusal_in (Modify n c g) = none

-- No loaded rule is broken. This is the one condition that a monitor must meet: `Monitor::new` makes a sound one, and every answer leaves a
-- sound one sound.
unfoldable pub Sound : Monitor → Type 0
Sound m = lowest_broken (view m) ≡ none

-- What the monitor m answers to what was read, x. Of any monitor: the refusal is that of document 01's tests, and a refused or inhibited record
-- gives back the monitor that it met, equal field by field. Of a sound one: word, numbers and the containers that gained are those of the
-- definitions, and so is the state after it, which is sound again.
pub record Answers (m : Monitor) (x : Reading) (r : Answered) : Type 0 where
  pub refusal : (n : ℕ) → refusal_in r.answer ≡ some n ↔ first_that (tests_of (view m) x) ≡ some n
  pub refused_kept : (n : Refusal) → r.answer ≡ Refused n → r.monitor ≡ m
  pub inhibited_kept : (n : ℕ) → r.answer ≡ Inhibit n → r.monitor ≡ m
  pub answer : Sound m → word_of r.answer ≡ answer_of (outcome_of (view m) x)
  pub gained : Sound m → gained_in r.answer ≡ gained_by (outcome_of (view m) x)
  pub state : Sound m → view r.monitor ≡ state_after (view m) (outcome_of (view m) x)
  pub sound : Sound m → Sound r.monitor

-- ---- what the public functions promise
-- `Monitor::new`: a fresh tracker
abbrev pub IsFresh : Monitor → Type 0
IsFresh m = view m ≡ fresh

-- `Monitor::answer`: what the record at the front of the bytes gets
abbrev pub AnswersRecord : Monitor → List ℕ → Answered → Type 0
AnswersRecord m bytes r = Answers m (reading bytes) r

-- `Monitor::call`: what a call of any five bytes gets (kind, process, a, b, c)
abbrev pub AnswersCall : Monitor → ℕ → ℕ → ℕ → ℕ → ℕ → Answered → Type 0
AnswersCall m kind p a b c r = Answers m (a_call (call_from kind p a b c)) r

-- `Monitor::items`: the items of container c
abbrev pub AnswersItems : Monitor → ℕ → Reply → Type 0
AnswersItems m c r = reply_of r ≡ items_query (view m) c

-- ---- what a call that is not refused comes to: a rule stops it and nothing is stored, or its gifts and the rest of its change are made, and g is
-- the set of the containers that gained
pub record Made (m : Monitor) (q : Call) (g : ℕ) (after : Monitor) : Type 0 where
  pub made : maps after ≡ finished (given (maps m) q) q
  pub rules : after.rules ≡ m.rules
  pub told : g ≡ gained (items_in m.tracker.words) (items_by (items_in m.tracker.words) (plan_for (maps m) q))
  pub passed : Judged (items_in m.tracker.words) (plan_for (maps m) q) m.rules.sets m.rules.fields None

pub record Stopped (m : Monitor) (q : Call) (k : ℕ) (after : Monitor) : Type 0 where
  pub kept : after ≡ m
  pub stopped : Judged (items_in m.tracker.words) (plan_for (maps m) q) m.rules.sets m.rules.fields (Some k)

unfoldable pub Gives : Monitor → Call → Result ℕ ℕ → Monitor → Type 0
Gives m q (Ok g) after = Made m q g after
Gives m q (Err k) after = Stopped m q k after

-- ---- a call that rule number k stops (01, What a record gets): diverted or inhibited
-- its answer, by what it was diverted to and those that gained
unfoldable pub stopped_by : ℕ → Maybe Diverted → Answer
stopped_by k (Some d) = Modify k d.to d.gained
stopped_by k None = Inhibit k

pub record AnswersStopped (m : Monitor) (q : Call) (k : ℕ) (r : Answered) : Type 0 where
  pub unrefused : refusal_in r.answer ≡ none
  pub inhibited_kept : (n : ℕ) → r.answer ≡ Inhibit n → r.monitor ≡ m
  pub answer : Sound m → word_of r.answer ≡ answer_of (stopped (view m) q k (rule_at m.rules.sets m.rules.fields k))
  pub gained : Sound m → gained_in r.answer ≡ gained_by (stopped (view m) q k (rule_at m.rules.sets m.rules.fields k))
  pub state : Sound m → view r.monitor ≡ state_after (view m) (stopped (view m) q k (rule_at m.rules.sets m.rules.fields k))
  pub sound : Sound m → Sound r.monitor

-- ---- a rule that is loaded, or why not
unfoldable pub loaded_by : Result ℕ Refusal → Answer
loaded_by (Ok k) = Loaded k
loaded_by (Err r) = Refused r

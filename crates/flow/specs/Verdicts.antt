-- Document 01, What a record gets: verdicts, the answer to a record, the state after it, and a whole log. 02, Paper 5: allow and modify tell
-- which containers gained, and the answer how many.
use Rattle.std.specs.Prelude.{ℕ, Bool, true, false, ◌&&◌, List, [], ◌∷◌, ◌++◌, eqb, length}
use Rattle.std.proofs.Math.Option.{Option, none, some}
use Rattle.sets.specs.Sets.{members}
use Rattle.flow.specs.Lists.{first_that, is_none}
use Rattle.flow.specs.Box.{container_of, Rule, State}
use Rattle.flow.specs.Links.{used}
use Rattle.flow.specs.Calls.{write, Call, is_kind, gift, Change, change, after}
use Rattle.flow.specs.Rules.{Numbered, lowest_broken}
use Rattle.flow.specs.Records.{Reading, unreadable, a_call, a_rule, reading, records_of}
use Rattle.flow.specs.Refusals.{call_tests, rule_tests}
use Rattle.flow.specs.Gained.{gained}

-- what a record gets, with the change that it makes; that of an allowed or modified call also has the set of the containers that gained (02,
-- Paper 5)
pub data Outcome : Type 0 where
  refuses : ℕ → Outcome
  loads : ℕ → Rule → Outcome  -- the rule's number
  allows : Change → ℕ → Outcome
  inhibits : ℕ → Outcome  -- the broken rule
  modifies : ℕ → ℕ → Change → ℕ → Outcome  -- the broken rule, the substitute

-- a write to the substitute instead
unfoldable pub diversion : State → Call → Rule → Change
diversion s q r = record { tables = s.tables; flow = gift (container_of q.process) r.substitute }

-- the rule diverts, the call is a write, and the substitute is in use
unfoldable pub may_divert : State → Call → Rule → Bool
may_divert s q r = eqb r.action 1 && is_kind write q && used s.tables r.substitute

unfoldable pub breaks_none : State → Bool
breaks_none s = is_none (lowest_broken s)

-- the containers that gained from the state s to the state t
abbrev pub gained_from : State → State → ℕ
gained_from s t = gained s.items t.items

-- the outcome where the lowest broken rule is r, number n
unfoldable pub stopped : State → Call → ℕ → Rule → Outcome
stopped s q n r =
    elim (may_divert s q r) [
      | true ↦ (let x = diversion s q r in let t = after s x in elim (breaks_none t) [ true ↦ modifies n r.substitute x (gained_from s t) | false ↦ inhibits n ])
      | false ↦ inhibits n
    ]

-- a call is worked out first, to the state t; if no rule is broken in it: allow
unfoldable pub verdict_by : State → Call → State → Option Numbered → Outcome
verdict_by s q t none = allows (change s.tables q) (gained_from s t)
verdict_by s q t (some x) = stopped s q x.number x.rule

unfoldable pub verdict_at : State → Call → State → Outcome
verdict_at s q t = verdict_by s q t (lowest_broken t)

unfoldable pub verdict : State → Call → Outcome
verdict s q = verdict_at s q (after s (change s.tables q))

-- ---- what a record gets, by what was read
unfoldable pub outcome_of_call : State → Option Call → Option ℕ → Outcome
outcome_of_call s q (some n) = refuses n
outcome_of_call s (some q) none = verdict s q
outcome_of_call s none none = refuses 4

unfoldable pub outcome_of_rule : State → Rule → Option ℕ → Outcome
outcome_of_rule s r (some n) = refuses n
outcome_of_rule s r none = loads (length s.rules) r

unfoldable pub outcome_of : State → Reading → Outcome
outcome_of s (unreadable n) = refuses n
outcome_of s (a_call q) = outcome_of_call s q (first_that (call_tests s.tables q))
outcome_of s (a_rule r) = outcome_of_rule s r (first_that (rule_tests s r))

-- what the record at the front of the bytes gets
unfoldable pub outcome : State → List ℕ → Outcome
outcome s bytes = outcome_of s (reading bytes)

-- the containers that gained by what a record gets; but for an allowed or modified call there are none
unfoldable pub gained_by : Outcome → ℕ
gained_by (refuses n) = 0
gained_by (loads n r) = 0
gained_by (allows x g) = g
gained_by (inhibits n) = 0
gained_by (modifies n c x g) = g

-- ---- the answer; allow and modify end with how many containers gained
pub data Answer : Type 0 where
  refused : ℕ → Answer
  rule : ℕ → Answer
  allow : ℕ → Answer
  inhibit : ℕ → Answer
  modify : ℕ → ℕ → ℕ → Answer

unfoldable pub answer_of : Outcome → Answer
answer_of (refuses n) = refused n
answer_of (loads n r) = rule n
answer_of (allows x g) = allow (length (members g))
answer_of (inhibits n) = inhibit n
answer_of (modifies n c x g) = modify n c (length (members g))

unfoldable pub answer : State → List ℕ → Answer
answer s bytes = answer_of (outcome s bytes)

-- ---- the state after it
unfoldable pub with_rule : State → Rule → State
with_rule s r = record { tables = s.tables; items = s.items; rules = s.rules ++ (r ∷ []) }

unfoldable pub state_after : State → Outcome → State
state_after s (refuses n) = s
state_after s (loads n r) = with_rule s r
state_after s (allows x g) = after s x
state_after s (inhibits n) = s
state_after s (modifies n c x g) = after s x

unfoldable pub next : State → List ℕ → State
next s bytes = state_after s (outcome s bytes)

-- ---- a log: one answer for each record, each meeting the state as the one before left it
pub record Replay : Type 0 where
  pub answers : List Answer
  pub state : State

unfoldable pub answer_all : State → List (List ℕ) → Replay
answer_all s [] = record { answers = []; state = s }
answer_all s (r ∷ rs) =
    let o = outcome s r in
    let rest = answer_all (state_after s o) rs in
    record { answers = answer_of o ∷ rest.answers; state = rest.state }

unfoldable pub run_log : State → List ℕ → Replay
run_log s log = answer_all s (records_of log)

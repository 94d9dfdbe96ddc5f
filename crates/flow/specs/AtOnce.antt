-- 02, Paper 3: no answer or state changes from document 01's form of map both, in trackers that records make from a fresh one.
use Rattle.std.specs.Prelude.{ℕ, zero, suc, ◌<◌, ◌≡◌, true, false, List, [], ◌∷◌, map, get_or, set}
use Rattle.std.proofs.Math.Option.{Option, none, some}
use Rattle.sets.specs.Sets.{only, ◌∪◌}
use Rattle.flow.specs.Lists.{first_that}
use Rattle.flow.specs.Box.{container_count, forbid, Rule, Tables, State, fresh, items_of, holds}
use Rattle.flow.specs.Links.{given_from, linked}
use Rattle.flow.specs.MapBoth.{at_once}
use Rattle.flow.specs.Calls.{Kind, read, write, map_both, Call, Flow, still, gift, arrival, exchange, copy, clear, Change, change, moved, after}
use Rattle.flow.specs.Records.{Reading, unreadable, a_call, a_rule, reading}
use Rattle.flow.specs.Refusals.{call_tests}
use Rattle.flow.specs.Verdicts.{Outcome, refuses, loads, allows, inhibits, modifies, verdict_at, outcome_of, outcome, allow, inhibit, answer_of, answer, with_rule, next, run_log}
use Rattle.flow.specs.Contents.{Step, entry, memory, step_at, state_at}
use Rattle.flow.specs.Runs.{call, two_sides}

-- ---- the sequence on whole states: map both is the read, then the write, each in the state as the one before left it, then the two links
unfoldable pub MapBothInSequence : Type 0
MapBothInSequence =
    (s : State) (p a : ℕ)
    → (let by : Kind → Change = λ k. change s.tables (record { kind = k; process = p; a = a; b = 0; c = 0 }) in
    let links : Change = record { tables = (by map_both).tables; flow = still } in
    after s (by map_both) ≡ after (after (after s (by read)) (by write)) links)

-- ---- document 01's form: what it makes a container hold is what the read and the write, both from the state before, make it hold
unfoldable pub MapBothAtOnce : Type 0
MapBothAtOnce =
    (t : Tables) (items : List ℕ) (c p v : ℕ) → v < container_count
    → get_or (at_once t items c p) v 0 ≡ get_or (given_from t items c p) v 0 ∪ get_or (given_from t items p c) v 0

-- ---- what follows from document 01's form, definition by definition as in Calls, Verdicts and Contents: an exchange alone moves items
-- otherwise
unfoldable pub moved_at_once : Tables → List ℕ → Flow → List ℕ
moved_at_once t items still = moved t items still
moved_at_once t items (gift g u) = moved t items (gift g u)
moved_at_once t items (arrival u i) = moved t items (arrival u i)
moved_at_once t items (exchange u v) = at_once t items u v
moved_at_once t items (copy u v) = moved t items (copy u v)
moved_at_once t items (clear u) = moved t items (clear u)

-- the items move, then the tables change
unfoldable pub after_at_once : State → Change → State
after_at_once s x =
    after (record { tables = s.tables; items = moved_at_once s.tables s.items x.flow; rules = s.rules }) (record { tables = x.tables; flow = still })

-- a diverted write is a gift, which moves items alike by both forms
unfoldable pub verdict_at_once : State → Call → Outcome
verdict_at_once s q = verdict_at s q (after_at_once s (change s.tables q))

unfoldable pub outcome_of_call_at_once : State → Option Call → Option ℕ → Outcome
outcome_of_call_at_once s q (some n) = refuses n
outcome_of_call_at_once s (some q) none = verdict_at_once s q
outcome_of_call_at_once s none none = refuses 4

unfoldable pub outcome_of_at_once : State → Reading → Outcome
outcome_of_at_once s (unreadable n) = refuses n
outcome_of_at_once s (a_call q) = outcome_of_call_at_once s q (first_that (call_tests s.tables q))
outcome_of_at_once s (a_rule r) = outcome_of s (a_rule r)

unfoldable pub outcome_at_once : State → List ℕ → Outcome
outcome_at_once s bytes = outcome_of_at_once s (reading bytes)

unfoldable pub state_after_at_once : State → Outcome → State
state_after_at_once s (refuses n) = s
state_after_at_once s (loads n r) = with_rule s r
state_after_at_once s (allows x g) = after_at_once s x
state_after_at_once s (inhibits n) = s
state_after_at_once s (modifies n c x g) = after_at_once s x

unfoldable pub next_at_once : State → List ℕ → State
next_at_once s bytes = state_after_at_once s (outcome_at_once s bytes)

unfoldable pub step_state_at_once : State → Step → State
step_state_at_once s (entry bytes) = next_at_once s bytes
step_state_at_once s memory = s

unfoldable pub state_at_once : List Step → ℕ → State
state_at_once steps zero = fresh
state_at_once steps (suc k) = step_state_at_once (state_at_once steps k) (step_at steps k)

-- For every list of steps, at every moment, the state is the same by both forms, and so are the outcome of every byte string and the state
-- after it.
unfoldable pub FormsAgree : Type 0
FormsAgree =
    (steps : List Step) (k : ℕ)
    → (let s = state_at steps k in
    let former = state_at_once steps k in
    (former ≡ s) × ((bytes : List ℕ) → (outcome_at_once former bytes ≡ outcome s bytes) × (next_at_once former bytes ≡ next s bytes)))

-- ---- the forms differ in a state that no record makes
-- 24, with item 1, links to process 1 (container 9), and process 0 (container 8), with item 2, to 25: but 9 and 25 hold nothing
unfoldable pub torn : List Rule → State
torn rules = let s = (run_log fresh two_sides).state in record { tables = s.tables; items = set (set s.items 9 0) 25 0; rules = rules }

-- so 24 links to a container that lacks its item
unfoldable pub Torn : Type 0
Torn = (rules : List Rule) → (linked (torn rules).tables 24 9 ≡ true) × (holds (torn rules) 24 1 ≡ true) × (holds (torn rules) 9 1 ≡ false)

-- whatever the rules, no list of steps comes to this state
unfoldable pub NeverTorn : Type 0
NeverTorn = (rules : List Rule) (steps : List Step) (k : ℕ) → state_at steps k ≡ torn rules → ⊥

-- Process 0 maps 24 both ways. By the sequence process 1 gets both items, by document 01's form item 2 alone; what 8, 25 and 24 then hold is
-- the same. A rule against item 1 in process 1 inhibits the one and not the other.
unfoldable pub FormsDiffer : Type 0
FormsDiffer =
    (let bytes = call map_both 0 0 0 0 in
    let containers : List ℕ = 8 ∷ 25 ∷ 24 ∷ 9 ∷ [] in
    let against : List Rule = record { condition = forbid 1 (only 9); action = 0; substitute = 0 } ∷ [] in
    (map (items_of (next (torn []) bytes)) containers ≡ 6 ∷ 2 ∷ 6 ∷ 6 ∷ [])
    × (map (items_of (next_at_once (torn []) bytes)) containers ≡ 6 ∷ 2 ∷ 6 ∷ 4 ∷ [])
    × (answer (torn against) bytes ≡ inhibit 0) × (answer_of (outcome_at_once (torn against) bytes) ≡ allow 4))

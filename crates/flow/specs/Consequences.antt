-- Short consequences of the definitions. They hold for every state and every byte string, but for CountsAfter, LogIsSteps, ForkTells and
-- ForkCopies, which speak of the states that steps make.
use Rattle.std.specs.Prelude.{ℕ, suc, ◌-◌, ◌≤◌, ◌<◌, ◌≡◌, ◌⊎◌, ◌↔◌, Bool, true, false, ◌&&◌, ◌||◌, List, [], ◌∷◌, ◌++◌, map, ltb, eqb, get_or, length, take, drop}
use Rattle.std.proofs.Math.Option.{none, some}
use Rattle.sets.specs.Sets.{has, only, members, ◌∪◌}
use Rattle.flow.specs.Lists.{is_in, Test, first_that}
use Rattle.flow.specs.Box.{container_count, item_count, process_count, descriptor_count, is_target, container_of, Rule, Tables, State, items_of, Sort, to_read, both_ways, mappings, holds, descriptor, is_open, is_bound}
use Rattle.flow.specs.Links.{linked, reach, used}
use Rattle.flow.specs.Calls.{Kind, map_read, map_both, unmap, fork, exit, kind_number, Call, is_kind, sort_of, Flow, still, gift, arrival, exchange, copy, clear, Change, change, after}
use Rattle.flow.specs.Rules.{broken, Numbered, lowest_broken}
use Rattle.flow.specs.Records.{record_length, kind_of, frame_tests, call_of, records_of}
use Rattle.flow.specs.Refusals.{Need, open_descriptor, bound_name, a_mapping, used_container, need_of, call_tests, rule_tests, record_tests, refusal}
use Rattle.flow.specs.Gained.{gained}
use Rattle.flow.specs.Verdicts.{allows, inhibits, modifies, diversion, may_divert, breaks_none, gained_from, outcome, refused, allow, inhibit, answer, next, answer_all, run_log}
use Rattle.flow.specs.Queries.{Reply, refuse, result, holders, holders_query, holders_slice}
use Rattle.flow.specs.Contents.{Step, entry, state_at}

-- a record is refused with the first number of its tests that applies, and every other record is accepted
unfoldable pub RefusedExactly : Type 0
RefusedExactly = (s : State) (bytes : List ℕ) (n : ℕ) → answer s bytes ≡ refused n ↔ refusal s bytes ≡ some n

-- 02, Paper 2: its number is that of the first test of its list that holds: that test holds, and no earlier one does
unfoldable pub FirstDecides : Type 0
FirstDecides =
    (s : State) (bytes : List ℕ) (n : ℕ)
    → (let test : ℕ → Test = λ k. get_or (record_tests s bytes) k none in
    refusal s bytes ≡ some n ↔ (k : ℕ) × (test k ≡ some n) × ((j : ℕ) → j < k → test j ≡ none))

-- a test of the list holds, and its number is m
pub data Applies (m : ℕ) : List Test → Type 0 where
  this_test : {t : Test} {ts : List Test} → t ≡ some m → Applies m (t ∷ ts)
  later_test : {t : Test} {ts : List Test} → Applies m ts → Applies m (t ∷ ts)

-- 02, Paper 2: the places of the tests of a record, each with its numbers (13 is a query's); Paper 4: 17 after 10
unfoldable pub places : List (List ℕ)
places =
    (1 ∷ [])
    ∷ (2 ∷ [])
    ∷ (3 ∷ [])
    ∷ (4 ∷ [])
    ∷ (5 ∷ [])
    ∷ (6 ∷ [])
    ∷ (7 ∷ [])
    ∷ (8 ∷ 14 ∷ 15 ∷ 16 ∷ [])
    ∷ (9 ∷ [])
    ∷ (10 ∷ [])
    ∷ (17 ∷ [])
    ∷ (11 ∷ [])
    ∷ (12 ∷ [])
    ∷ []

-- how many places come before that of n; all of them where it has none
unfoldable pub place_in : List (List ℕ) → ℕ → ℕ
place_in [] n = 0
place_in (l ∷ ls) n = elim (is_in n l) [ true ↦ 0 | false ↦ suc (place_in ls n) ]

unfoldable pub place_of : ℕ → ℕ
place_of n = place_in places n

-- as many tests as numbers, each at the place of its number: it refuses with numbers of that place alone
unfoldable pub StandAt : List ℕ → List Test → Type 0
StandAt [] [] = Unit {0}
StandAt (m ∷ ms) (t ∷ ts) = ((n : ℕ) → t ≡ some n → place_of n ≡ place_of m) × StandAt ms ts
StandAt [] (t ∷ ts) = ⊥
StandAt (m ∷ ms) [] = ⊥

-- the places of a record's frame, of a call, of one whose kind is unknown, and of a rule
unfoldable pub TestsInPlace : Type 0
TestsInPlace =
    ((bytes : List ℕ) → StandAt (1 ∷ 2 ∷ 3 ∷ []) (frame_tests bytes))
    × ((t : Tables) (q : Call) → StandAt (5 ∷ 6 ∷ 7 ∷ 8 ∷ 9 ∷ 10 ∷ 17 ∷ []) (call_tests t (some q)))
    × ((t : Tables) → StandAt (4 ∷ []) (call_tests t none))
    × ((s : State) (r : Rule) → StandAt (4 ∷ 5 ∷ 9 ∷ 11 ∷ 12 ∷ []) (rule_tests s r))

-- the number of a refusal has the earliest place of all that apply
unfoldable pub EarliestPlace : Type 0
EarliestPlace = (s : State) (bytes : List ℕ) (n m : ℕ) → refusal s bytes ≡ some n → Applies m (record_tests s bytes) → place_of n ≤ place_of m

-- no record meets two numbers of one place: of 8, 14, 15 and 16 one at most
unfoldable pub OneOfAPlace : Type 0
OneOfAPlace =
    (s : State) (bytes : List ℕ) (n m : ℕ)
    → Applies n (record_tests s bytes) → Applies m (record_tests s bytes) → place_of n ≡ place_of m → n ≡ m

-- the record is a call that needs x, and P holds of it
unfoldable pub Lacks : List ℕ → Need → (Call → Type 0) → Type 0
Lacks bytes x P = (q : Call) × (call_of bytes ≡ some q) × (need_of q.kind ≡ x) × P q

-- 02, Paper 2: the number tells what was missing; Paper 4: 16, a mapping of the sort that field b names
unfoldable pub NumberTells : Type 0
NumberTells =
    (s : State) (bytes : List ℕ)
    → (let t = s.tables in
    (answer s bytes ≡ refused 14 → Lacks bytes open_descriptor (λ q. is_open t q.process q.a ≡ false))
    × (answer s bytes ≡ refused 15 → Lacks bytes bound_name (λ q. is_bound t q.a ≡ false))
    × (answer s bytes ≡ refused 16 → Lacks bytes a_mapping (λ q. mappings t (sort_of q.b) q.process q.a ≡ 0))
    × (answer s bytes ≡ refused 8 → Lacks bytes used_container (λ q. used t q.a ≡ false)))

-- the call maps for reading, or both ways, and its process has at least 255 mappings of that sort of the container that descriptor a leads to
unfoldable pub AtLimit : Tables → Call → Type 0
AtLimit t q =
    let c = descriptor t q.process q.a in
    ((q.kind ≡ map_read) × (255 ≤ mappings t to_read q.process c)) ⊎ ((q.kind ≡ map_both) × (255 ≤ mappings t both_ways q.process c))

-- 02, Paper 4: only such a call is refused with 17
unfoldable pub FullTold : Type 0
FullTold = (s : State) (bytes : List ℕ) → answer s bytes ≡ refused 17 → (q : Call) × (call_of bytes ≡ some q) × AtLimit s.tables q

-- and where none of the six tests before it holds (5 to 10), each such call is
unfoldable pub FullExactly : Type 0
FullExactly =
    (t : Tables) (q : Call) → first_that (take 6 (call_tests t (some q))) ≡ none → first_that (call_tests t (some q)) ≡ some 17 ↔ AtLimit t q

-- 02, Paper 4: between a process p and a device, file or pipe c the link to p is there while either count is above 0, the link to c while the
-- two-way count is
unfoldable pub LinksByCounts : Type 0
LinksByCounts =
    (t : Tables) (p c : ℕ) → p < process_count → is_target c ≡ true
    → (linked t c (container_of p) ≡ (ltb 0 (mappings t to_read p c) || ltb 0 (mappings t both_ways p c)))
    × (linked t (container_of p) c ≡ ltb 0 (mappings t both_ways p c))

-- the two sorts are the same
unfoldable pub is_sort : Sort → Sort → Bool
is_sort to_read to_read = true
is_sort to_read both_ways = false
is_sort both_ways to_read = false
is_sort both_ways both_ways = true

module _ (t : Tables) (q : Call) (x : Sort) (p c : ℕ) where
  -- the call maps the pair of process p and container c in the sort x, or unmaps it
  unfoldable pub maps_it : Bool
  maps_it = ((is_kind map_read q && is_sort to_read x) || (is_kind map_both q && is_sort both_ways x)) && (eqb q.process p && eqb (descriptor t q.process q.a) c)

  unfoldable pub unmaps_it : Bool
  unmaps_it = (is_kind unmap q && is_sort (sort_of q.b) x) && (eqb q.process p && eqb q.a c)

  -- how many mappings of that sort p then has of c: none if it exits, the parent's if it is forked, else one more, one less or as many
  unfoldable pub count_after : ℕ
  count_after =
      elim (is_kind exit q && eqb q.process p) [
        | true ↦ 0
        | false ↦ elim (is_kind fork q && eqb q.a p) [
          | true ↦ mappings t x q.process c
          | false ↦ elim maps_it [ true ↦ suc (mappings t x p c) | false ↦ elim unmaps_it [ true ↦ mappings t x p c - 1 | false ↦ mappings t x p c ] ]
        ]
      ]

-- 02, Paper 4: what every call that is not refused makes of the counts, where no rule stops it. The change is that of the call itself; it is
-- made where the call is allowed
unfoldable pub CountsAfter : Type 0
CountsAfter =
    (steps : List Step) (k : ℕ) (q : Call)
    → (let t = (state_at steps k).tables in
    first_that (call_tests t (some q)) ≡ none → (x : Sort) (p c : ℕ) → mappings (change t q).tables x p c ≡ count_after t q x p c)

-- each kind has its number, and no other number is known
unfoldable pub KindsNumbered : Type 0
KindsNumbered = (n : ℕ) (k : Kind) → kind_of n ≡ some k ↔ n ≡ kind_number k

-- an allowed or modified call breaks no rule after it
unfoldable pub PassedBreaksNone : Type 0
PassedBreaksNone =
    (s : State) (bytes : List ℕ) (x : Change) (g : ℕ)
    → (outcome s bytes ≡ allows x g → lowest_broken (after s x) ≡ none)
    × ((n c : ℕ) → outcome s bytes ≡ modifies n c x g → lowest_broken (after s x) ≡ none)

-- Of a list of rules, the first with number k, x is broken and no earlier one is.
pub data LowestIn (s : State) (x : Numbered) : ℕ → List Rule → Type 0 where
  this : {k : ℕ} {r : Rule} {rs : List Rule} → broken s r ≡ true → x ≡ record { number = k; rule = r } → LowestIn s x k (r ∷ rs)
  past : {k : ℕ} {r : Rule} {rs : List Rule} → broken s r ≡ false → LowestIn s x (suc k) rs → LowestIn s x k (r ∷ rs)

-- the rule that decides is the lowest broken one
unfoldable pub LowestReported : Type 0
LowestReported = (s : State) (x : Numbered) → lowest_broken s ≡ some x → LowestIn s x 0 s.rules

-- A call that is not refused is allowed exactly if no rule is broken after it. Otherwise the lowest broken rule decides: the call is
-- modified exactly if that rule may divert it and the diverted write breaks no rule, and inhibited in every other case.
unfoldable pub VerdictExactly : Type 0
VerdictExactly =
    (s : State) (bytes : List ℕ) (q : Call) → refusal s bytes ≡ none → call_of bytes ≡ some q
    → (let t = after s (change s.tables q) in
    (lowest_broken t ≡ none → outcome s bytes ≡ allows (change s.tables q) (gained_from s t))
    × ((x : Numbered) → lowest_broken t ≡ some x
    → (let d = diversion s q x.rule in
    (may_divert s q x.rule ≡ true → lowest_broken (after s d) ≡ none → outcome s bytes ≡ modifies x.number x.rule.substitute d (gained_from s (after s d)))
    × ((may_divert s q x.rule && breaks_none (after s d)) ≡ false → outcome s bytes ≡ inhibits x.number))))

-- where no rule is broken, a call that adds no item anywhere is allowed, and nothing gains
unfoldable pub NoGainAllowed : Type 0
NoGainAllowed =
    (s : State) (bytes : List ℕ) (q : Call) → lowest_broken s ≡ none → refusal s bytes ≡ none → call_of bytes ≡ some q
    → ((c i : ℕ) → c < container_count → holds (after s (change s.tables q)) c i ≡ true → holds s c i ≡ true) → outcome s bytes ≡ allows (change s.tables q) 0

-- 02, Paper 5: a container is among those that gained exactly if it holds an item after that it lacked before
unfoldable pub GainedExactly : Type 0
GainedExactly =
    (before after : List ℕ) (c : ℕ)
    → has (gained before after) c ≡ true
    ↔ (c < container_count) × ((i : ℕ) × (has (get_or after c 0) i ≡ true) × (has (get_or before c 0) i ≡ false))

-- so they are 64 at most
unfoldable pub GainedAtMost : Type 0
GainedAtMost = (before after : List ℕ) → length (members (gained before after)) ≤ container_count

-- what an allowed or modified call tells is what gained by the change that it made
unfoldable pub GainTold : Type 0
GainTold =
    (s : State) (bytes : List ℕ) (x : Change) (g : ℕ)
    → (outcome s bytes ≡ allows x g → g ≡ gained_from s (after s x))
    × ((n c : ℕ) → outcome s bytes ≡ modifies n c x g → g ≡ gained_from s (after s x))

-- a change by which nothing gains breaks no rule where none was broken
unfoldable pub NoGainBreaksNone : Type 0
NoGainBreaksNone = (s : State) (x : Change) → lowest_broken s ≡ none → gained_from s (after s x) ≡ 0 → lowest_broken (after s x) ≡ none

-- the containers that a flow gives to, with the links before the call: the reach of the receiver, in map both those of both; of a fork the child
unfoldable pub given_to : Tables → Flow → ℕ
given_to t still = 0
given_to t (gift g u) = reach t u
given_to t (arrival u i) = reach t u
given_to t (exchange u v) = reach t v ∪ reach t u
given_to t (copy u v) = only v
given_to t (clear u) = 0

-- what gained lies in a reach of what was given to
unfoldable pub GainedInReach : Type 0
GainedInReach = (s : State) (x : Change) (c : ℕ) → has (gained_from s (after s x)) c ≡ true → has (given_to s.tables x.flow) c ≡ true

-- a forked child gains if its parent holds anything, and nothing else does
unfoldable pub ForkTells : Type 0
ForkTells =
    (steps : List Step) (k p a : ℕ) → p < process_count → a < process_count
    → (let s = state_at steps k in
    let t = after s (change s.tables (record { kind = fork; process = p; a = a; b = 0; c = 0 })) in
    used s.tables (container_of a) ≡ false
    → gained_from s t ≡ elim (eqb (items_of s (container_of p)) 0) [ true ↦ 0 | false ↦ only (container_of a) ])

-- a refused or inhibited record leaves the state as it was
unfoldable pub StoppedKeeps : Type 0
StoppedKeeps =
    (s : State) (bytes : List ℕ) (n : ℕ) → (answer s bytes ≡ refused n → next s bytes ≡ s) × (answer s bytes ≡ inhibit n → next s bytes ≡ s)

-- a log gives one answer for each of its records
unfoldable pub OneAnswerEach : Type 0
OneAnswerEach = (s : State) (log : List ℕ) → length (run_log s log).answers ≡ length (records_of log)

-- and that to a record is its answer in the state that the records before it leave
unfoldable pub AnswersInOrder : Type 0
AnswersInOrder =
    (s : State) (log : List ℕ) (k : ℕ) → k < length (records_of log)
    → get_or (run_log s log).answers k (allow 0) ≡ answer (answer_all s (take k (records_of log))).state (get_or (records_of log) k [])

-- A log is a row of records: each is as long as its header says, but for a last one whose header or value runs past the end.
pub data RowOf : List ℕ → List (List ℕ) → Type 0 where
  nothing : RowOf [] []
  cut : {b : ℕ} {bs : List ℕ} → length (b ∷ bs) < record_length (b ∷ bs) → RowOf (b ∷ bs) ((b ∷ bs) ∷ [])
  whole : {r rest : List ℕ} {rs : List (List ℕ)} → length r ≡ record_length r → RowOf rest rs → RowOf (r ++ rest) (r ∷ rs)

unfoldable pub LogIsRow : Type 0
LogIsRow = (log : List ℕ) → RowOf log (records_of log)

-- each number of the list is below all that stand behind it
unfoldable pub Rises : List ℕ → Type 0
Rises [] = Unit {0}
Rises (x ∷ l) = ((y : ℕ) → is_in y l ≡ true → x < y) × Rises l

-- 02, Paper 1: a list is that of the holders exactly if it rises and the containers that hold the item are what stands in it
unfoldable pub HoldersInOrder : Type 0
HoldersInOrder =
    (s : State) (i : ℕ) (l : List ℕ) → l ≡ holders s i ↔ Rises l × ((c : ℕ) → is_in c l ≡ (ltb c container_count && holds s c i))

-- The query for the holders of an item above 63 is refused with 5. That of any other is refused with 13 where the slice is shorter than the
-- list, and otherwise answers how many stand in the list.
unfoldable pub HoldersAnswered : Type 0
HoldersAnswered =
    (s : State) (i room : ℕ)
    → (item_count ≤ i → holders_query s i room ≡ refuse 5)
    × (i < item_count → room < length (holders s i) → holders_query s i room ≡ refuse 13)
    × (i < item_count → length (holders s i) ≤ room → holders_query s i room ≡ result (length (holders s i)))

-- where n is answered, the first n elements of the slice are the list l and the others are as before; where it is refused, all are
unfoldable pub Leaves : Reply → List ℕ → List ℕ → List ℕ → Type 0
Leaves (result n) l before now = (take n now ≡ l) × (drop n now ≡ drop n before)
Leaves (refuse n) l before now = now ≡ before

-- so it is with the query for the holders, and the slice stays as long as it was
unfoldable pub SliceAnswered : Type 0
SliceAnswered =
    (s : State) (i : ℕ) (before : List ℕ)
    → (let now = holders_slice s i before in
    (length now ≡ length before) × Leaves (holders_query s i (length before)) (holders s i) before now)

-- The records of a log are steps: after any steps, a log leaves the state that they have with its records added.
unfoldable pub LogIsSteps : Type 0
LogIsSteps =
    (steps : List Step) (log : List ℕ)
    → (let more = steps ++ map entry (records_of log) in (run_log (state_at steps (length steps)) log).state ≡ state_at more (length more))

-- a forked child has the parent's items, descriptors, counts of mappings (02, Paper 4) and links, in each direction
unfoldable pub ForkCopies : Type 0
ForkCopies =
    (steps : List Step) (k p a : ℕ) → p < process_count → a < process_count
    → (let s = state_at steps k in
    let t = after s (change s.tables (record { kind = fork; process = p; a = a; b = 0; c = 0 })) in
    used s.tables (container_of a) ≡ false
    → (items_of t (container_of a) ≡ items_of s (container_of p))
    × ((d : ℕ) → d < descriptor_count → descriptor t.tables a d ≡ descriptor s.tables p d)
    × ((x : Sort) (c : ℕ) → mappings t.tables x a c ≡ mappings s.tables x p c)
    × ((u : ℕ) → linked t.tables u (container_of a) ≡ linked s.tables u (container_of p))
    × ((v : ℕ) → linked t.tables (container_of a) v ≡ linked s.tables (container_of p) v))

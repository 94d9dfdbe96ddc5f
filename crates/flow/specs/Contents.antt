-- Document 01, The contents in demand 3: a plain machine, apart from the code.
use Rattle.std.specs.Prelude.{ℕ, zero, suc, true, false, List, [], ◌∷◌, eqb, get_or}
use Rattle.std.proofs.Math.Option.{Option, none, some}
use Rattle.sets.specs.Sets.{has}
use Rattle.flow.specs.Box.{container_count, Tables, State, fresh}
use Rattle.flow.specs.Links.{linked, reach}
use Rattle.flow.specs.Calls.{label, Call, is_kind, Flow, still, gift, arrival, exchange, copy, clear, Change, ended}
use Rattle.flow.specs.Records.{call_of}
use Rattle.flow.specs.Verdicts.{Outcome, refuses, loads, allows, inhibits, modifies, outcome, state_after}

-- a step is a record, as its bytes stand in a log, whole or cut short, or a memory step
pub data Step : Type 0 where
  entry : List ℕ → Step
  memory : Step

-- a container that links to another, and its contents
pub record Feeder (W : Type 0) : Type 0 where
  pub container : ℕ
  pub contents : W

-- Contents of any type W; empty is 01's 0. Each function has the receiver's number, its old contents and the step's place in the list, and
-- gift: the giver's contents (for a label, the input); both_gifts: those of both givers; fork: the parent's;
-- memory: those of all that link to it.
pub record Machine (W : Type 0) : Type 0 where
  pub empty : W
  pub gift : ℕ → W → ℕ → W → W
  pub both_gifts : ℕ → W → ℕ → W → W → W
  pub fork : ℕ → W → ℕ → W → W
  pub memory : ℕ → W → ℕ → List (Feeder W) → W

module _ {W : Type 0} (m : Machine W) where
  -- what a flow at place n makes of the contents of container v: t are the tables before, input what a label brings in, κ the contents before
  unfoldable pub flowed : ℕ → W → Tables → Flow → (ℕ → W) → ℕ → W
  flowed n input t still κ v = κ v
  flowed n input t (gift g u) κ v = elim (has (reach t u) v) [ true ↦ m.gift v (κ v) n (κ g) | false ↦ κ v ]
  flowed n input t (arrival u i) κ v = elim (has (reach t u) v) [ true ↦ m.gift v (κ v) n input | false ↦ κ v ]
  flowed n input t (exchange a b) κ v =
      elim (has (reach t b) v) [
        | true ↦ elim (has (reach t a) v) [ true ↦ m.both_gifts v (κ v) n (κ a) (κ b) | false ↦ m.gift v (κ v) n (κ a) ]
        | false ↦ elim (has (reach t a) v) [ true ↦ m.gift v (κ v) n (κ b) | false ↦ κ v ]
      ]
  flowed n input t (copy a b) κ v = elim (eqb v b) [ true ↦ m.fork v (κ v) n (κ a) | false ↦ κ v ]
  flowed n input t (clear u) κ v = elim (eqb v u) [ true ↦ m.empty | false ↦ κ v ]

  -- a change moves contents, and what it ends the use of is emptied
  unfoldable pub changed : ℕ → W → Tables → Change → (ℕ → W) → ℕ → W
  changed n input t x κ v = elim (ended t x.tables v) [ true ↦ m.empty | false ↦ flowed n input t x.flow κ v ]

  -- allowed and modified calls make their change; no other record changes contents
  unfoldable pub contents_after : ℕ → W → State → Outcome → (ℕ → W) → ℕ → W
  contents_after n input s (refuses k) κ = κ
  contents_after n input s (loads k r) κ = κ
  contents_after n input s (allows x g) κ = changed n input s.tables x κ
  contents_after n input s (inhibits k) κ = κ
  contents_after n input s (modifies k c x g) κ = changed n input s.tables x κ

  -- of the containers below n, those that link to v, with their contents
  unfoldable pub linked_to : State → (ℕ → W) → ℕ → ℕ → List (Feeder W)
  linked_to s κ v zero = []
  linked_to s κ v (suc u) =
      elim (linked s.tables u v) [ true ↦ record { container = u; contents = κ u } ∷ linked_to s κ v u | false ↦ linked_to s κ v u ]

  -- the contents after a step
  unfoldable pub step_contents : ℕ → W → State → Step → (ℕ → W) → ℕ → W
  step_contents n input s (entry bytes) κ = contents_after n input s (outcome s bytes) κ
  step_contents n input s memory κ = λ v. m.memory v (κ v) n (linked_to s κ v container_count)

-- the state after a step
unfoldable pub step_state : State → Step → State
step_state s (entry bytes) = state_after s (outcome s bytes)
step_state s memory = s

-- step number n of the list
abbrev pub step_at : List Step → ℕ → Step
step_at steps n = get_or steps n memory

-- the state at moment k of a list of steps: at the start, where k is 0, or at the end of step k - 1
unfoldable pub state_at : List Step → ℕ → State
state_at steps zero = fresh
state_at steps (suc k) = step_state (state_at steps k) (step_at steps k)

-- ---- a run: a tracker, and contents for each container
pub record Run (W : Type 0) : Type 0 where
  pub tracker : State
  pub contents : ℕ → W

-- the run at moment k; inputs n is what comes in from outside at step n
unfoldable pub run_at : {W : Type 0} → Machine W → (ℕ → W) → List Step → ℕ → Run W
run_at m inputs steps zero = record { tracker = fresh; contents = λ c. m.empty }
run_at m inputs steps (suc k) =
    let r = run_at m inputs steps k in
    let x = step_at steps k in
    record { tracker = step_state r.tracker x; contents = step_contents m k (inputs k) r.tracker x r.contents }

-- the item of a label
unfoldable pub label_of : Option Call → Option ℕ
label_of none = none
label_of (some q) = elim (is_kind label q) [ true ↦ some q.b | false ↦ none ]

-- the item that a step labels, if the step is a label
unfoldable pub item_labelled : Step → Option ℕ
item_labelled (entry bytes) = label_of (call_of bytes)
item_labelled memory = none

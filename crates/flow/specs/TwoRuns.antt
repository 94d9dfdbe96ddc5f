-- Demand 3 of the request: what a container is recorded not to hold cannot have influenced its contents.
use Rattle.std.specs.Prelude.{ℕ, ◌≤◌, ◌<◌, ◌≡◌, ◌⊎◌, Bool, true, false, List, ◌∷◌, length}
use Rattle.std.proofs.Math.Option.{some}
use Rattle.sets.specs.Sets.{has}
use Rattle.flow.specs.Box.{container_count, item_count, Rule, State}
use Rattle.flow.specs.Rules.{forbids}
use Rattle.flow.specs.Queries.{result, items_query}
use Rattle.flow.specs.Contents.{Step, Machine, run_at, step_at, item_labelled}

-- the items query answers none of the chosen items for container c
unfoldable pub RecordedWithout : (ℕ → Bool) → State → ℕ → Type 0
RecordedWithout chosen s c = (x : ℕ) → items_query s c ≡ result x → (i : ℕ) → i < item_count → chosen i ≡ true → has x i ≡ false

-- some rule of the list forbids container c item i
pub data Forbidden (c i : ℕ) : List Rule → Type 0 where
  first : {r : Rule} {rs : List Rule} → forbids r.condition c i ≡ true → Forbidden c i (r ∷ rs)
  later : {r : Rule} {rs : List Rule} → Forbidden c i rs → Forbidden c i (r ∷ rs)

-- the loaded rules forbid container c every chosen item
unfoldable pub RulesForbid : (ℕ → Bool) → State → ℕ → Type 0
RulesForbid chosen s c = (i : ℕ) → i < item_count → chosen i ≡ true → Forbidden c i s.rules

-- what comes in from outside is equal at every label of an item that is not chosen
unfoldable pub Agree : {W : Type 0} → (ℕ → Bool) → List Step → (ℕ → W) → (ℕ → W) → Type 0
Agree chosen steps in₁ in₂ = (n i : ℕ) → item_labelled (step_at steps n) ≡ some i → chosen i ≡ false → in₁ n ≡ in₂ n

-- Two fresh trackers get the same list of steps, and both runs share every function of the machine; only the inputs may differ.
-- At every moment k each container recorded, in either tracker, as holding none of the chosen items has equal contents in both runs.
-- So has each that the rules loaded at some moment j, no later than k, forbid every chosen item.
unfoldable pub Demand3 : Type 1
Demand3 =
    (W : Type 0) (m : Machine W) (chosen : ℕ → Bool) (steps : List Step) (in₁ in₂ : ℕ → W) → Agree chosen steps in₁ in₂
    → (k : ℕ) → k ≤ length steps → (c : ℕ) → c < container_count
    → (RecordedWithout chosen (run_at m in₁ steps k).tracker c ⊎ RecordedWithout chosen (run_at m in₂ steps k).tracker c
    → (run_at m in₁ steps k).contents c ≡ (run_at m in₂ steps k).contents c)
    × ((j : ℕ) → j ≤ k → RulesForbid chosen (run_at m in₁ steps j).tracker c ⊎ RulesForbid chosen (run_at m in₂ steps j).tracker c
    → (run_at m in₁ steps k).contents c ≡ (run_at m in₂ steps k).contents c)

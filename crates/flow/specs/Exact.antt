-- Beyond the request: no container is recorded as holding an item without cause.
use Rattle.std.specs.Prelude.{ℕ, ◌≤◌, ◌≡◌, true, List, length}
use Rattle.std.proofs.Math.Option.{some}
use Rattle.sets.specs.Sets.{has}
use Rattle.flow.specs.Queries.{result, items_query}
use Rattle.flow.specs.Contents.{Step, Machine, state_at, run_at, step_at, item_labelled}

-- the inputs differ at labels of item i only
unfoldable pub DifferOnlyAt : ℕ → List Step → (ℕ → ℕ) → (ℕ → ℕ) → Type 0
DifferOnlyAt i steps in₁ in₂ = (n : ℕ) → (item_labelled (step_at steps n) ≡ some i → ⊥) → in₁ n ≡ in₂ n

-- functions of the machine and two inputs by which the contents of container c at moment k differ
pub record Influence (steps : List Step) (k c i : ℕ) : Type 0 where
  pub machine : Machine ℕ
  pub from_zero : machine.empty ≡ 0
  pub in₁ : ℕ → ℕ
  pub in₂ : ℕ → ℕ
  pub only_labels : DifferOnlyAt i steps in₁ in₂
  pub differ : (run_at machine in₁ steps k).contents c ≡ (run_at machine in₂ steps k).contents c → ⊥

-- Where the items query answers at moment k that container c holds item i, labels of that item alone can make its contents differ.
unfoldable pub Exact : Type 0
Exact =
    (steps : List Step) (k : ℕ) → k ≤ length steps → (c i x : ℕ) → items_query (state_at steps k) c ≡ result x → has x i ≡ true
    → Influence steps k c i

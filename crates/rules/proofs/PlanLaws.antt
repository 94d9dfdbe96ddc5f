-- What a container gets by a plan, and the items after it: what is kept and what is given.
use Prim.Native.Nat.{ℕ, ◌^◌, ◌<◌}
use native.Mathlib.Omega.{arith}
use mathlib.Core.Path.{◌≡◌, sym, ap, ap₂, ◌∙◌}
use mathlib.Core.Bool.{Bool, true, false, not, ◌&&◌, ◌||◌, and-true, and-false, or_assoc}
use mathlib.Core.List.{List}
use lib.ListN.{get_or}
use Rattle.sets.specs.Sets.{has}
use Rattle.sets.proofs.Members.{union_has, union_lt, none_has}
use Rattle.flow.specs.Links.{given}
use Rattle.flow.proofs.Bools.{choice}
use Rattle.flow.proofs.TableLaws.{table_at}
use Rattle.flow.proofs.Moves.{given_has}
use Rattle.store.specs.declared.Plan.{Plan}
use Rattle.store.specs.Maps.{cleared, items_by}
use Rattle.rules.specs.Judging.{only_if, gets, keeps}

-- ---- what a container gets
-- a set, or else the empty set
pub chosen_has : (b : Bool) (x v : ℕ) → has (elim b as (λ z. ℕ) [ true ↦ x | false ↦ 0 ]) v ≡ (has x v && b)
chosen_has true x v = sym (and-true (has x v))
chosen_has false x v = none_has v ∙ sym (and-false (has x v))

only_if_lt : (x i to : ℕ) → to < 2 ^ 64 → only_if (has x i) to < 2 ^ 64
unfolding only_if
only_if_lt x i to h = choice (λ (y : ℕ). y < 2 ^ 64) (has x i) to 0 (λ e. h) (λ e. omega arith)

module _ (plan : Plan) where
  pub gets_has : (i v : ℕ) → has (gets plan i) v ≡ ((has plan.to v && has plan.given i) || (has plan.to2 v && has plan.given2 i))
  unfolding gets only_if
  gets_has i v = union_has _ _ v ∙ ap₂ ◌||◌ (chosen_has _ _ v) (chosen_has _ _ v)

  pub gets_lt : plan.to < 2 ^ 64 → plan.to2 < 2 ^ 64 → (i : ℕ) → gets plan i < 2 ^ 64
  unfolding gets
  gets_lt h k i = union_lt _ _ (only_if_lt _ i _ h) (only_if_lt _ i _ k)

-- ---- the items after a plan
cleared_has : (l : List ℕ) (x v i : ℕ) → v < 64 → has (get_or (cleared l x) v 0) i ≡ (has (get_or l v 0) i && not (has x v))
unfolding cleared
cleared_has l x v i h = ap (λ (y : ℕ). has y i) (table_at 64 _ v 0 h) ∙ go (has x v)
  where
    go : (b : Bool) → has (elim b as (λ z. ℕ) [ true ↦ 0 | false ↦ get_or l v 0 ]) i ≡ (has (get_or l v 0) i && not b)
    go true = none_has i ∙ sym (and-false (has (get_or l v 0) i))
    go false = sym (and-true (has (get_or l v 0) i))

pub made_has : (l : List ℕ) (plan : Plan) (v i : ℕ) → v < 64 → has (get_or (items_by l plan) v 0) i ≡ (keeps l plan v i || has (gets plan i) v)
unfolding items_by keeps
made_has l plan v i h =
    let kept = cleared l plan.empty in
    given_has (given kept plan.to plan.given) plan.to2 plan.given2 v i h
    ∙ rw (given_has kept plan.to plan.given v i h, cleared_has l plan.empty v i h, gets_has plan i v)
    (or_assoc (has (get_or l v 0) i && not (has plan.empty v)) _ _)

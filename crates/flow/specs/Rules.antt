-- Document 01, The records: when a rule is broken; What a record gets: the lowest broken rule.
use Rattle.std.specs.Prelude.{ℕ, suc, Bool, true, false, not, ◌&&◌, List, [], ◌∷◌, eqb}
use Rattle.std.proofs.Math.Option.{Option, none, some}
use Rattle.sets.specs.Sets.{has}
use Rattle.flow.specs.Lists.{some_below}
use Rattle.flow.specs.Box.{container_count, Condition, forbid, separate, confine, Rule, State, holds}

-- what container c holds breaks the condition
unfoldable pub breaks : State → Condition → ℕ → Bool
breaks s (forbid i x) c = holds s c i && has x c
breaks s (separate i j) c = holds s c i && holds s c j
breaks s (confine i x) c = holds s c i && not (has x c)

unfoldable pub broken : State → Rule → Bool
broken s r = some_below container_count (λ c. breaks s r.condition c)

-- a rule and its number
pub record Numbered : Type 0 where
  pub number : ℕ
  pub rule : Rule

-- the first broken rule of a list whose first is number k
unfoldable pub first_broken : State → ℕ → List Rule → Option Numbered
first_broken s k [] = none
first_broken s k (r ∷ rs) = elim (broken s r) [ true ↦ some (record { number = k; rule = r }) | false ↦ first_broken s (suc k) rs ]

-- the lowest broken rule
unfoldable pub lowest_broken : State → Option Numbered
lowest_broken s = first_broken s 0 s.rules

-- the rule forbids container c item i (01, The contents in demand 3)
unfoldable pub forbids : Condition → ℕ → ℕ → Bool
forbids (forbid j x) c i = eqb i j && has x c
forbids (separate j k) c i = false
forbids (confine j x) c i = eqb i j && not (has x c)

-- A planned call is judged before anything is stored (01, What a record gets): which rules it breaks that were whole before it.
use Rattle.std.specs.Prelude.{ℕ, zero, suc, ◌%◌, ◌≤◌, ◌<◌, ◌^◌, ◌≡◌, Bool, true, false, not, ◌&&◌, ◌||◌, List, eqb, get_or, Option, MatchOption, IfSome, unwrap_or}
use Rattle.std.proofs.Math.Option.{Option as Maybe, none, some}
use Rattle.sets.specs.Sets.{has, ◌∪◌, ◌∩◌}
use Rattle.flow.specs.Lists.{some_below}
use Rattle.flow.specs.Box.{container_count, Condition, forbid, separate, confine, Rule, State, holds}
use Rattle.flow.specs.Links.{meets}
use Rattle.flow.specs.Rules.{Numbered}
use Rattle.store.specs.declared.Plan.{Plan}
use Rattle.rules.specs.Stored.{rule_at, count_of}

-- ---- a plan
-- the set x where the test holds, else the empty set
unfoldable pub only_if : Bool → ℕ → ℕ
only_if b x = elim b [ true ↦ x | false ↦ 0 ]

-- the containers that get item i
unfoldable pub gets : Plan → ℕ → ℕ
gets plan i = only_if (has plan.given i) plan.to ∪ only_if (has plan.given2 i) plan.to2

-- container v held item i and is not emptied
unfoldable pub keeps : List ℕ → Plan → ℕ → ℕ → Bool
keeps items plan v i = has (get_or items v 0) i && not (has plan.empty v)

-- some container of the set keeps item i
unfoldable pub some_keeps : List ℕ → Plan → ℕ → ℕ → Bool
some_keeps items plan set i = some_below container_count (λ v. has set v && keeps items plan v i)

-- r has the items of the set's containers
pub record Held (items : List ℕ) (set r : ℕ) : Type 0 where
  pub has_item : (i : ℕ) → has r i ≡ some_below container_count (λ v. has set v && has (get_or items v 0) i)

-- r has the items that the set's containers hold once the plan is made: they keep them or get them
pub record Met (items : List ℕ) (plan : Plan) (set r : ℕ) : Type 0 where
  pub has_item : (i : ℕ) → has r i ≡ some_below container_count (λ v. has set v && (keeps items plan v i || has (gets plan i) v))

-- of items i and j one is given, and the other is met where the gift goes
unfoldable pub meet : ℕ → ℕ → ℕ → ℕ → Bool
meet given met i j = (has given i && has met j) || (has given j && has met i)

-- What the plan makes of a state s, as far as judging goes by it, where t is the state after the call. What t holds was kept or given; what is
-- given is held; and what gets anything has what it kept.
pub record Planned (s t : State) (plan : Plan) : Type 0 where
  pub rules : t.rules ≡ s.rules
  pub small : plan.to < 2 ^ 64
  pub small2 : plan.to2 < 2 ^ 64
  pub source : (v i : ℕ) → v < container_count → holds t v i ≡ true → (keeps s.items plan v i || has (gets plan i) v) ≡ true
  pub given : (v i : ℕ) → v < container_count → has (gets plan i) v ≡ true → holds t v i ≡ true
  pub kept : (v i : ℕ) → v < container_count → has (plan.to ∪ plan.to2) v ≡ true → keeps s.items plan v i ≡ true → holds t v i ≡ true

-- ---- judging
-- the plan breaks a condition that was whole (01, The records)
unfoldable pub breaks_anew : List ℕ → Plan → Condition → Bool
breaks_anew items plan (forbid i x) = meets (gets plan i) x
breaks_anew items plan (separate i j) = meets (gets plan i) (gets plan j) || some_keeps items plan (gets plan i) j || some_keeps items plan (gets plan j) i
breaks_anew items plan (confine i x) = not (eqb (gets plan i ∩ x) (gets plan i))

-- the condition speaks of an item of the set x
unfoldable pub touches : ℕ → Condition → Bool
touches x (forbid i y) = has x i
touches x (separate i j) = has x i || has x j
touches x (confine i y) = has x i

-- its items' rests by 64
unfoldable pub by_rests : Condition → Condition
by_rests (forbid i y) = forbid (i % 64) y
by_rests (separate i j) = separate (i % 64) (j % 64)
by_rests (confine i y) = confine (i % 64) y

-- of the n numbers from k on, the first that f holds of, and k + n where it holds of none
unfoldable pub first_from : ℕ → ℕ → (ℕ → Bool) → ℕ
first_from zero k f = k
first_from (suc n) k f = elim (f k) [ true ↦ k | false ↦ first_from n (suc k) f ]

-- the number of the first loaded rule that the plan breaks anew, and how many are loaded where it breaks none
unfoldable pub first_anew : List ℕ → Plan → List ℕ → List ℕ → ℕ
first_anew items plan sets fields = first_from (count_of fields) 0 (λ k. breaks_anew items plan (rule_at sets fields k).condition)

-- the plan breaks rule k anew
abbrev pub breaks_rule : List ℕ → Plan → List ℕ → List ℕ → ℕ → Bool
breaks_rule items plan sets fields k = breaks_anew items plan (rule_at sets fields k).condition

-- of the numbers from k on and below n, r is the first that f holds of, if it holds of one
abbrev pub FirstOf : (ℕ → Bool) → ℕ → ℕ → Option ℕ → Type 0
FirstOf f k n r =
    MatchOption r ((j : ℕ) → k ≤ j → j < n → f j ≡ false) (λ i. (k ≤ i) × (i < n) × (f i ≡ true) × ((j : ℕ) → k ≤ j → j < i → f j ≡ false))

-- the first of the rules from k on that it breaks anew
abbrev pub AnewFrom : List ℕ → Plan → List ℕ → List ℕ → ℕ → Option ℕ → Type 0
AnewFrom items plan sets fields k r = FirstOf (breaks_rule items plan sets fields) k (count_of fields) r

-- what judging answers: the first of all loaded rules that the plan breaks anew, if it breaks one; the plan's sets are of containers
pub record Judged (items : List ℕ) (plan : Plan) (sets fields : List ℕ) (r : Option ℕ) : Type 0 where
  pub small : plan.to < 2 ^ 64
  pub small2 : plan.to2 < 2 ^ 64
  pub number : unwrap_or r (count_of fields) ≡ first_anew items plan sets fields
  pub below : IfSome r (λ k. k < count_of fields)

-- rule number m of n, and none where m is n
unfoldable pub found : ℕ → (ℕ → Rule) → ℕ → Maybe Numbered
found n rule m = elim (eqb m n) [ true ↦ none | false ↦ some (record { number = m; rule = rule m }) ]

-- ---- the present state
-- container c breaks the condition, where x are its items
unfoldable pub breaks_with : ℕ → Condition → ℕ → Bool
breaks_with x (forbid i y) c = has x i && has y c
breaks_with x (separate i j) c = has x i && has x j
breaks_with x (confine i y) c = has x i && not (has y c)

-- some container breaks it
unfoldable pub broken_in : List ℕ → Condition → Bool
broken_in items condition = some_below container_count (λ c. breaks_with (get_or items c 0) condition c)

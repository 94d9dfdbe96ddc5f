-- A rule that was whole is broken after a planned call where the plan breaks it anew; so the first of these is the lowest broken rule.
use Prim.Native.Nat.{ℕ, zero, suc, ◌+◌, ◌^◌, ◌≤◌, ◌<◌}
use native.Mathlib.Omega.{arith}
use mathlib.Core.Path.{◌≡◌, refl, sym, ap, ap₂, ◌∙◌}
use mathlib.Core.Bool.{Bool, true, false, not, ◌&&◌, ◌||◌, and_comm, and-false, or-false}
use mathlib.Core.List.{List}
use mathlib.Core.Option.{none}
use Rattle.sets.specs.Sets.{has, ◌∪◌}
use Rattle.sets.proofs.Members.{union_has}
use Rattle.flow.specs.Lists.{table_from, table, some_below}
use Rattle.flow.specs.Box.{Condition, forbid, separate, confine, Rule, State, items_of, holds}
use Rattle.flow.specs.Rules.{breaks, broken, first_broken, lowest_broken}
use Rattle.flow.proofs.Bools.{by, no_both, or_elim, or_l, or_r, and_l, and_r, and_i, and_false_l, chosen_l, chosen_r, same}
use Rattle.flow.proofs.TableLaws.{none_of, some_same, some_or}
use Rattle.flow.proofs.Meets.{meets_some, outside_some}
use Rattle.flow.proofs.Judging.{first_whole}
use Rattle.store.specs.declared.Plan.{Plan}
use Rattle.rules.specs.Stored.{rule_at, count_of, rules_of}
use Rattle.rules.specs.Judging.{gets, keeps, some_keeps, Planned, breaks_anew, first_from, first_anew, found}
use Rattle.rules.proofs.PlanLaws.{gets_has, gets_lt}
use Rattle.rules.proofs.Searching.{first_le, first_end, first_hit, first_miss, found_none, found_some}

module _ (s t : State) (plan : Plan) (p : Planned s t plan) where
  -- container v gets item i; it keeps it
  abbrev got : ℕ → ℕ → Bool
  got v i = has (gets plan i) v

  abbrev stays : ℕ → ℕ → Bool
  stays v i = keeps s.items plan v i

  small : (i : ℕ) → gets plan i < 2 ^ 64
  small = gets_lt plan p.small p.small2

  -- what gets an item is in `to` or in `to2`
  got_in : (v i : ℕ) → got v i ≡ true → has (plan.to ∪ plan.to2) v ≡ true
  got_in v i h =
      union_has plan.to plan.to2 v
      ∙ or_elim (has plan.to v && has plan.given i) (has plan.to2 v && has plan.given2 i)
      (λ e. or_l (has plan.to v) _ (and_l _ _ e)) (λ e. or_r (has plan.to v) _ (and_l _ _ e)) (sym (gets_has plan i v) ∙ h)

  stays_held : (v i : ℕ) → stays v i ≡ true → holds s v i ≡ true
  unfolding keeps holds items_of
  stays_held v i h = and_l (holds s v i) _ h

  -- ---- container v
  module _ (v : ℕ) (l : v < 64) where
    -- it holds what it keeps or gets
    source : (i : ℕ) {P : Type 0} → holds t v i ≡ true → (stays v i ≡ true → P) → (got v i ≡ true → P) → P
    source i h f g = or_elim (stays v i) (got v i) f g (p.source v i l h)

    -- what it did not hold, it holds where it gets it
    anew : (i : ℕ) → holds s v i ≡ false → holds t v i ≡ got v i
    anew i e = same (holds t v i) (got v i) (λ h. source i h (λ k. no_both (stays_held v i k) e) (λ g. g)) (p.given v i l)

    -- what it does not get, while it gets something, it holds where it keeps it
    kept : (i j : ℕ) → got v i ≡ false → got v j ≡ true → holds t v i ≡ stays v i
    kept i j e g = same (holds t v i) (stays v i) (λ h. source i h (λ k. k) (λ q. no_both q e)) (p.kept v i l (got_in v j g))

    -- what it does not get, it held
    held : (i : ℕ) → got v i ≡ false → holds t v i ≡ true → holds s v i ≡ true
    held i e h = source i h (stays_held v i) (λ g. no_both g e)

    one : (i : ℕ) (b : Bool) → (holds s v i && b) ≡ false → (holds t v i && b) ≡ (got v i && b)
    one i true e = ap (λ (a : Bool). a && true) (anew i (and_false_l (holds s v i) true refl e))
    one i false e = and-false (holds t v i) ∙ sym (and-false (got v i))

    neither : (i j : ℕ) → (holds s v i && holds s v j) ≡ false → got v i ≡ false → got v j ≡ false → (holds t v i && holds t v j) ≡ false
    neither i j e a b =
        by (holds t v i && holds t v j)
        (λ h.
        let hi = held i a (and_l (holds t v i) (holds t v j) h) in
        let hj = held j b (and_r (holds t v i) (holds t v j) h) in
        no_both (and_i (holds s v i) (holds s v j) hi hj) e)
        (λ h. h)

    both : (i j : ℕ) → (holds s v i && holds s v j) ≡ false
        → (holds t v i && holds t v j) ≡ ((got v i && got v j) || (got v i && stays v j) || (got v j && stays v i))
    both i j e =
        by (got v i)
        (λ a. by (got v j)
        (λ b. rw (p.given v i l a, p.given v j l b, a, b) refl)
        (λ b. rw (p.given v i l a, kept j i b a, a, b) (sym (or-false _))))
        (λ a. by (got v j)
        (λ b. rw (p.given v j l b, kept i j a b, a, b) (and_comm _ true))
        (λ b. rw (a, b) (neither i j e a b)))

  by_condition : (c : Condition) → some_below 64 (λ v. breaks s c v) ≡ false → some_below 64 (λ v. breaks t c v) ≡ breaks_anew s.items plan c
  unfolding breaks breaks_anew some_keeps
  by_condition (forbid i x) e =
      some_same 64 (λ v l. one v l i (has x v) (none_of 64 (λ v. breaks s (forbid i x) v) v e l)) ∙ sym (meets_some (gets plan i) x (small i))
  by_condition (separate i j) e =
      some_same 64 (λ v l. both v l i j (none_of 64 (λ v. breaks s (separate i j) v) v e l))
      ∙ some_or 64 _ _ ∙ ap₂ ◌||◌ (some_or 64 _ _ ∙ ap₂ ◌||◌ (sym (meets_some (gets plan i) (gets plan j) (small i))) refl) refl
  by_condition (confine i x) e =
      some_same 64 (λ v l. one v l i (not (has x v)) (none_of 64 (λ v. breaks s (confine i x) v) v e l)) ∙ sym (outside_some (gets plan i) x (small i))

  pub broken_anew : (r : Rule) → broken s r ≡ false → broken t r ≡ breaks_anew s.items plan r.condition
  unfolding broken
  broken_anew r e = by_condition r.condition e

-- ---- the lowest
-- of rules that are all whole in s, the first that breaks in t
first_found : (s t : State) (rule : ℕ → Rule) (f : ℕ → Bool) → ((j : ℕ) → broken s (rule j) ≡ false → broken t (rule j) ≡ f j)
    → (n k : ℕ) → first_broken s k (table_from n k rule) ≡ none → first_broken t k (table_from n k rule) ≡ found (k + n) rule (first_from n k f)
unfolding first_broken table_from
first_found s t rule f h zero k w = sym (ap (found (k + 0) rule) (first_end k f) ∙ found_none (k + 0) rule k (omega arith))
first_found s t rule f h (suc n) k w =
    let both = first_whole s k (rule k) (table_from n (suc k) rule) w in
    let here : broken t (rule k) ≡ f k = h k both.0 in
    by (f k)
    (λ e.
    chosen_l (broken t (rule k)) _ _ (here ∙ e)
    ∙ sym (ap (found (k + suc n) rule) (first_hit k f n e) ∙ found_some (k + suc n) rule k (λ q. omega (arith, q))))
    (λ e.
    chosen_r (broken t (rule k)) _ _ (here ∙ e)
    ∙ first_found s t rule f h n (suc k) both.1
    ∙ ap (λ (m : ℕ). found m rule (first_from n (suc k) f)) (let q : suc k + n ≡ k + suc n = omega arith in q)
    ∙ sym (ap (found (k + suc n) rule) (first_miss k f n e)))

pub first_anew_le : (items : List ℕ) (plan : Plan) (sets fields : List ℕ) → first_anew items plan sets fields ≤ count_of fields
unfolding first_anew
first_anew_le items plan sets fields = omega (arith, first_le (count_of fields) 0 (λ k. breaks_anew items plan (rule_at sets fields k).condition))

-- where no rule was broken, the first that the plan breaks anew is the lowest broken rule
pub judged : (s t : State) (plan : Plan) (sets fields : List ℕ) → lowest_broken s ≡ none → Planned s t plan → s.rules ≡ rules_of sets fields
    → lowest_broken t ≡ found (count_of fields) (rule_at sets fields) (first_anew s.items plan sets fields)
unfolding lowest_broken rules_of table first_anew
judged s t plan sets fields w p e =
    ap (first_broken t 0) (p.rules ∙ e)
    ∙ first_found s t (rule_at sets fields) _ (λ j h. broken_anew s t plan p (rule_at sets fields j) h) (count_of fields) 0 (ap (first_broken s 0) (sym e) ∙ w)
    ∙ ap (λ (m : ℕ). found m (rule_at sets fields) (first_anew s.items plan sets fields)) (let z : 0 + count_of fields ≡ count_of fields = omega arith in z)

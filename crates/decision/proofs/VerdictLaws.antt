-- A call is judged by its plan; the lowest rule that it breaks decides.
use Prim.Native.Nat.{ℕ, ◌^◌, ◌≤◌, ◌<◌}
use native.Mathlib.Omega.{arith}
use mathlib.Core.Path.{◌≡◌, refl, sym, ap, ◌∙◌}
use mathlib.Core.Bool.{Bool, true, false, ◌&&◌}
use mathlib.Core.List.{List}
use mathlib.Core.Option.{Option, none, some}
use lib.Dec.{eqb}
use lib.ListN.{get_or, length}
use Rattle.std.specs.Prelude.{Option as Maybe, None, Some, unwrap_or}
use Rattle.sets.specs.Sets.{has, ◌∪◌}
use Rattle.sets.proofs.Members.{union_has, none_has}
use Rattle.flow.specs.Lists.{is_none}
use Rattle.flow.specs.Box.{container_of, Rule, State, items_of, holds}
use Rattle.flow.specs.Links.{reach, used}
use Rattle.flow.specs.Calls.{write, Call, is_kind, change, after}
use Rattle.flow.specs.Rules.{Numbered, lowest_broken}
use Rattle.flow.specs.Verdicts.{Outcome, modifies, inhibits, diversion, may_divert, breaks_none, gained_from, stopped, verdict_by, verdict_at, verdict}
use Rattle.flow.proofs.Bools.{or_elim, or_l, or_r, no_both, choice, chosen_l, chosen_r}
use Rattle.store.specs.declared.Plan.{Plan}
use Rattle.store.specs.Maps.{items_in, view as maps_of, items_by}
use Rattle.store.proofs.Parts.{part_length}
use Rattle.tracker.specs.Plans.{giving}
use Rattle.tracker.specs.Worked.{Foreseen}
use Rattle.tracker.proofs.Joined.{gift_made}
use Rattle.rules.specs.Stored.{rule_at, count_of}
use Rattle.rules.specs.Judging.{only_if, gets, keeps, Planned, Judged, found}
use Rattle.rules.proofs.PlanLaws.{made_has}
use Rattle.rules.proofs.JudgingLaws.{judged}
use Rattle.rules.proofs.Searching.{found_none, found_some}
use Rattle.rules.proofs.StoredLaws.{count_le}
use Rattle.decision.specs.declared.Monitor.{Monitor}
use Rattle.decision.specs.View.{maps, view}
use Rattle.decision.specs.Answers.{Sound}

-- ---- what is given goes to those that the plan names
only_in : (x i to v : ℕ) → has (only_if (has x i) to) v ≡ true → has to v ≡ true
unfolding only_if
only_in x i to v = choice (λ (y : ℕ). has y v ≡ true → has to v ≡ true) (has x i) to 0 (λ e h. h) (λ e h. no_both h (none_has v))

gets_in : (plan : Plan) (v i : ℕ) → has (gets plan i) v ≡ true → has (plan.to ∪ plan.to2) v ≡ true
unfolding gets
gets_in plan v i h =
    let x = only_if (has plan.given i) plan.to in
    let y = only_if (has plan.given2 i) plan.to2 in
    union_has plan.to plan.to2 v
    ∙ or_elim (has x v) (has y v) (λ e. or_l (has plan.to v) _ (only_in plan.given i plan.to v e)) (λ e. or_r (has plan.to v) _ (only_in plan.given2 i plan.to2 v e)) (sym (union_has x y v) ∙ h)

-- ---- what the plan foresees is what judging relies on
module _ (m : Monitor) (plan : Plan) (t : State) (rules : t.rules ≡ (view m).rules) (f : Foreseen (items_in m.tracker.words) t.items plan) where
  planned : plan.to < 2 ^ 64 → plan.to2 < 2 ^ 64 → Planned (view m) t plan
  unfolding view maps_of holds items_of
  planned h k =
      record {
        rules = rules;
        small = h;
        small2 = k;
        source = λ v i l e. sym (made_has (items_in m.tracker.words) plan v i l) ∙ f.less v i l e;
        given = λ v i l e. ap (λ (x : ℕ). has x i) (f.same v l (gets_in plan v i e)) ∙ made_has (items_in m.tracker.words) plan v i l ∙ or_r (keeps (items_in m.tracker.words) plan v i) _ e;
        kept = λ v i l r e. ap (λ (x : ℕ). has x i) (f.same v l r) ∙ made_has (items_in m.tracker.words) plan v i l ∙ or_l (keeps (items_in m.tracker.words) plan v i) _ e;
      }

  abbrev count : ℕ
  count = count_of m.rules.fields

  abbrev rule_of : ℕ → Rule
  rule_of = rule_at m.rules.sets m.rules.fields

  lowest : (r : Maybe ℕ) → Judged (items_in m.tracker.words) plan m.rules.sets m.rules.fields r → Sound m → lowest_broken t ≡ found count rule_of (unwrap_or r count)
  unfolding view maps_of Sound
  lowest r j h = judged (view m) t plan m.rules.sets m.rules.fields h (planned j.small j.small2) refl ∙ ap (found count rule_of) (sym j.number)

  pub judged_none : Judged (items_in m.tracker.words) plan m.rules.sets m.rules.fields None → Sound m → lowest_broken t ≡ none
  judged_none j h = lowest None j h ∙ found_none count rule_of count refl

  pub judged_some : (k : ℕ) → Judged (items_in m.tracker.words) plan m.rules.sets m.rules.fields (Some k) → Sound m → lowest_broken t ≡ some (record { number = k; rule = rule_of k })
  judged_some k j h = lowest (Some k) j h ∙ found_some count rule_of k (λ e. let l : k < count = j.below in let y : ⊥ = omega arith in y)

-- the rule found is one of the 32
pub found_lt : {items : List ℕ} {plan : Plan} {sets fields : List ℕ} {k : ℕ} → Judged items plan sets fields (Some k) → k < 32
found_lt {items} {plan} {sets} {fields} {k} j =
    let l : k < count_of fields = j.below in
    let b : count_of fields ≤ 32 = count_le fields in
    omega arith

-- ---- verdicts
pub stops : (s : State) (q : Call) (x : Numbered) → lowest_broken (after s (change s.tables q)) ≡ some x → verdict s q ≡ stopped s q x.number x.rule
unfolding verdict verdict_at verdict_by
stops s q x h = ap (verdict_by s q (after s (change s.tables q))) h

-- ---- a call that rule k stops
module _ (m : Monitor) (q : Call) (k : ℕ) where
  abbrev rule : Rule
  rule = rule_at m.rules.sets m.rules.fields k

  abbrev outcome : Outcome
  outcome = stopped (view m) q k rule

  not_diverted : may_divert (view m) q rule ≡ false → outcome ≡ inhibits k
  unfolding stopped
  not_diverted d = chosen_r (may_divert (view m) q rule) _ _ d

  second : (x y z : Bool) → y ≡ false → (x && y && z) ≡ false
  second true y z h = rw h refl
  second false y z h = refl

  third : (x y z : Bool) → z ≡ false → (x && y && z) ≡ false
  third true true z h = h
  third true false z h = refl
  third false y z h = refl

  -- the rule does not divert
  pub no_divert : eqb rule.action 1 ≡ false → outcome ≡ inhibits k
  unfolding may_divert
  no_divert h = not_diverted (rw h refl)

  -- the call is no write
  pub no_write : is_kind write q ≡ false → outcome ≡ inhibits k
  unfolding may_divert
  no_write h = not_diverted (second (eqb rule.action 1) (is_kind write q) (used (view m).tables rule.substitute) h)

  -- the substitute is not in use
  pub not_used : used (maps m).tables rule.substitute ≡ false → outcome ≡ inhibits k
  unfolding may_divert view
  not_used h = not_diverted (third (eqb rule.action 1) (is_kind write q) (used (maps m).tables rule.substitute) h)

  module _ (a : eqb rule.action 1 ≡ true) (w : is_kind write q ≡ true) (u : used (maps m).tables rule.substitute ≡ true) where
    diverts : may_divert (view m) q rule ≡ true
    unfolding may_divert view
    diverts = rw (a, w, u) refl

    by_judging : (o : Option Numbered) → lowest_broken (after (view m) (diversion (view m) q rule)) ≡ o
        → outcome ≡ elim (is_none o) as (λ z. Outcome) [ true ↦ modifies k rule.substitute (diversion (view m) q rule) (gained_from (view m) (after (view m) (diversion (view m) q rule))) | false ↦ inhibits k ]
    unfolding stopped breaks_none
    by_judging o h = chosen_l (may_divert (view m) q rule) _ _ diverts ∙ ap (λ (v : Option Numbered). elim (is_none v) as (λ z. Outcome) [ true ↦ modifies k rule.substitute (diversion (view m) q rule) (gained_from (view m) (after (view m) (diversion (view m) q rule))) | false ↦ inhibits k ]) h

    pub diverted : lowest_broken (after (view m) (diversion (view m) q rule)) ≡ none → outcome ≡ modifies k rule.substitute (diversion (view m) q rule) (gained_from (view m) (after (view m) (diversion (view m) q rule)))
    unfolding is_none
    diverted h = by_judging none h

    pub diversion_broken : (n : Numbered) → lowest_broken (after (view m) (diversion (view m) q rule)) ≡ some n → outcome ≡ inhibits k
    unfolding is_none
    diversion_broken n h = by_judging (some n) h

  -- the items after the write to the substitute are those of its plan
  pub gift_items : length m.tracker.words ≡ 353
      → (after (view m) (diversion (view m) q rule)).items ≡ items_by (items_in m.tracker.words) (giving (get_or (items_in m.tracker.words) (container_of q.process) 0) (reach (maps m).tables rule.substitute))
  unfolding after diversion view maps_of
  gift_items long = gift_made (maps m) (part_length 1 64 m.tracker.words (omega arith)) (container_of q.process) rule.substitute

-- what is exactly the plan's is foreseen
pub exactly : (items after : List ℕ) (plan : Plan) → after ≡ items_by items plan → Foreseen items after plan
exactly items after plan e =
    record { less = λ v i l h. ap (λ (x : List ℕ). has (get_or x v 0) i) (sym e) ∙ h; same = λ v l r. ap (λ (x : List ℕ). get_or x v 0) e }

-- A call whose kind is known: refused, allowed or stopped.
use Prim.Native.Nat.{ℕ}
use native.Mathlib.Omega.{arith}
use mathlib.Core.Path.{◌≡◌, refl, sym, ap, ap₂, subst, ◌∙◌}
use mathlib.Core.Bool.{false}
use mathlib.Core.List.{List}
use mathlib.Core.Option.{Option, none, some}
use lib.ListN.{get_or, length}
use Rattle.std.specs.Prelude.{None, Some}
use Rattle.flow.specs.Lists.{first_that}
use Rattle.flow.specs.Calls.{Call, change, after}
use Rattle.flow.specs.Records.{a_call}
use Rattle.flow.specs.Refusals.{call_tests, tests_of}
use Rattle.flow.specs.Verdicts.{gained_from}
use Rattle.flow.specs.Box.{State, Rule}
use Rattle.flow.specs.Gained.{gained}
use Rattle.flow.proofs.GainLaws.{gained_none}
use Rattle.sets.specs.Sets.{has, ◌∪◌}
use Rattle.terms.specs.declared.refusal.Refusal.{Refusal}
use Rattle.terms.specs.Refusals.{number}
use Rattle.store.specs.declared.Plan.{Plan}
use Rattle.store.specs.Maps.{Maps, items_in, view as maps_of, items_by}
use Rattle.store.proofs.Parts.{part_length}
use Rattle.store.proofs.Writes.{sized_view}
use Rattle.tracker.specs.declared.Tracker.{Tracker}
use Rattle.tracker.specs.View.{view as tracked}
use Rattle.tracker.specs.Rows.{Passes}
use Rattle.tracker.specs.Plans.{nothing, plan_for, gives_by}
use Rattle.tracker.specs.Worked.{given, finished, maps_by, Makes, Foreseen}
use Rattle.tracker.proofs.Joined.{unmoved, quiet, quiet_given, gives_by_lem, still_passes, finished_call, foreseen, foreseen_gained}
use Rattle.rules.specs.Stored.{rules_of}
use Rattle.rules.specs.Judging.{Judged}
use Rattle.rules.proofs.AnewLaws.{nothing_given, judges}
use Rattle.decision.specs.declared.Monitor.{Monitor}
use Rattle.decision.specs.declared.Answer.TheVariants.{Refused, Allow}
use Rattle.decision.specs.declared.Answered.{Answered}
use Rattle.decision.specs.View.{maps, view}
use Rattle.decision.specs.Answers.{Answers, Made, Stopped, AnswersStopped}
use Rattle.decision.proofs.AnswerLaws.{refused_as, allowed_as, stopped_as}
use Rattle.decision.proofs.VerdictLaws.{judged_none, judged_some, stops}

pub refused_call : (m : Monitor) (q : Option Call) (r : Refusal) → some (number r) ≡ first_that (call_tests (maps m).tables q) → Answers m (a_call q) (record { answer = Refused r; monitor = m })
unfolding view tests_of
refused_call m q r e = refused_as m (a_call q) r (sym e)

-- a call that no test holds of passes
pub passes : (m : Monitor) (q : Option Call) (x : Call) → none ≡ first_that (call_tests (maps m).tables q) → q ≡ some x → Passes (maps m) x
passes m q x e k = record { none_holds = ap (λ (o : Option Call). first_that (call_tests (maps m).tables o)) (sym k) ∙ sym e }

-- ---- what a call gives
module _ (m : Monitor) (q : Call) where
  abbrev planned : Plan
  planned = plan_for (maps m) q

  -- the same rules, and other maps
  abbrev with_tracker : Tracker → Monitor
  with_tracker t = record { tracker = t; rules = m.rules }

  -- a kind that does not give
  pub gives_nothing : length m.tracker.words ≡ 353 → gives_by q.kind ≡ false → (t : Tracker) → tracked t ≡ finished (maps m) q → Made m q 0 (with_tracker t)
  unfolding maps_of ◌∪◌
  gives_nothing long h t v =
      let e : planned ≡ nothing = quiet (maps m) q h in
      let items = items_in m.tracker.words in
      record {
        made = v ∙ ap (λ (s : Maps). finished s q) (quiet_given (maps m) (part_length 1 64 m.tracker.words (omega arith)) q h);
        rules = refl;
        told = rw e (sym (gained_none items _ (λ c i l d. ap (λ (x : List ℕ). has (get_or x c 0) i) (sym (unmoved (maps m) (part_length 1 64 m.tracker.words (omega arith)))) ∙ d)));
        passed = rw e (judges items nothing m.rules.sets m.rules.fields None (omega arith) (omega arith) (nothing_given nothing refl items m.rules.sets m.rules.fields));
      }

  module _ (plan : Plan) (p : plan ≡ planned) where
    -- a rule is broken
    pub gives_stopped : (k : ℕ) → Judged (items_in m.tracker.words) plan m.rules.sets m.rules.fields (Some k) → Stopped m q k m
    gives_stopped k j = record { kept = refl; stopped = subst (λ (x : Plan). Judged (items_in m.tracker.words) x m.rules.sets m.rules.fields (Some k)) p j }

    module _ (t : Tracker) (g : ℕ) (v : Makes (maps m) plan (tracked t) g) where
      -- none is: the plan is made, then the rest of the call
      pub gives_made : Judged (items_in m.tracker.words) plan m.rules.sets m.rules.fields None → (u : Tracker) → tracked u ≡ finished (tracked t) q → Made m q g (with_tracker u)
      unfolding given maps_of
      gives_made j u f =
          let z = gives_by_lem (maps m) (tracked t) q plan g p v in
          record {
            made = f ∙ ap (λ (s : Maps). finished s q) z.0;
            rules = refl;
            told = z.1;
            passed = subst (λ (x : Plan). Judged (items_in m.tracker.words) x m.rules.sets m.rules.fields None) p j;
          }

      -- a call that passes still does once its plan is made
      pub passes_made : Passes (maps m) q → Passes (tracked t) q
      passes_made h = still_passes q h (gives_by_lem (maps m) (tracked t) q plan g p v).0

-- what gains by a call is what gains by its plan
by_plan : (m : Monitor) (plan : Plan) (t : State) → Foreseen (items_in m.tracker.words) t.items plan → gained (items_in m.tracker.words) (items_by (items_in m.tracker.words) plan) ≡ gained_from (view m) t
unfolding view maps_of
by_plan m plan t f = foreseen_gained (items_in m.tracker.words) t.items plan f

-- ---- a call that passes
module _ (m : Monitor) (q : Call) (long : length m.tracker.words ≡ 353) (named : length m.tracker.names ≡ 128) (h : Passes (maps m) q) where
  abbrev changes : State
  changes = after (view m) (change (view m).tables q)

  untested : first_that (call_tests (view m).tables (some q)) ≡ none
  unfolding view
  untested = h.none_holds

  sees : Foreseen (items_in m.tracker.words) changes.items (planned m q)
  unfolding view after maps_of
  sees = foreseen (maps m) (part_length 1 64 m.tracker.words (omega arith)) (sized_view m.tracker.words _ _) named q h.none_holds

  same_rules : changes.rules ≡ (view m).rules
  unfolding after
  same_rules = refl

  -- no rule is broken
  module _ (g : ℕ) (w : Monitor) (made : Made m q g w) where
    changed_view : view w ≡ changes
    unfolding view after maps_by maps_of
    changed_view =
        ap₂ (λ (s : Maps) (r : List Rule). record { tables = s.tables; items = s.items; rules = r })
        (made.made ∙ finished_call (maps m) (part_length 1 64 m.tracker.words (omega arith)) (sized_view m.tracker.words _ _) named q h.none_holds)
        (ap (λ r. rules_of r.sets r.fields) made.rules)

    pub allowed_call : Answers m (a_call (some q)) (record { answer = Allow g; monitor = w })
    allowed_call = allowed_as m q untested w g changed_view (judged_none m (planned m q) changes same_rules sees made.passed) (made.told ∙ by_plan m (planned m q) changes sees)

  pub stopped_call : (k : ℕ) (w : Monitor) → Stopped m q k w → (r : Answered) → AnswersStopped w q k r → Answers m (a_call (some q)) r
  stopped_call k w z r s =
      stopped_as m q untested k r (subst (λ (x : Monitor). AnswersStopped x q k r) z.kept s) (λ d. stops (view m) q _ (judged_some m (planned m q) changes same_rules sees k z.stopped d))

-- A rule is refused with the number of the first test that holds, or loaded behind the others.
use Prim.Native.Nat.{ℕ, ◌≤◌, ◌<◌}
use mathlib.Core.Path.{◌≡◌, refl, sym, ◌∙◌}
use mathlib.Core.Bool.{Bool, true, false}
use mathlib.Core.List.{[], ◌∷◌, ◌++◌}
use mathlib.Core.Option.{none, some}
use lib.Dec.{leb}
use lib.ListN.{length}
use borrow.Author.Tests.{le-leb, lt-leb}
use Rattle.flow.specs.Lists.{◌⇒◌, first_that}
use Rattle.flow.specs.Box.{Rule}
use Rattle.flow.specs.Rules.{broken}
use Rattle.flow.specs.Records.{a_rule}
use Rattle.flow.specs.Refusals.{field_tests, rule_tests, tests_of}
use Rattle.flow.specs.Verdicts.{with_rule}
use Rattle.flow.proofs.TableLaws.{first_some, first_none}
use Rattle.terms.specs.declared.refusal.Refusal.{Refusal}
use Rattle.terms.specs.declared.refusal.Refusal.TheVariants.{RulesFull, BrokenAlready}
use Rattle.terms.specs.Refusals.{number}
use Rattle.store.specs.Maps.{items_in, view as maps_of}
use Rattle.rules.specs.declared.Rules.{Rules}
use Rattle.rules.specs.Stored.{count_of, rules_of}
use Rattle.rules.specs.Judging.{broken_in}
use Rattle.rules.proofs.ConditionLaws.{broken_in_lem}
use Rattle.rules.proofs.StoredLaws.{rules_length}
use Rattle.rules.proofs.LoadingLaws.{fit_substitute}
use Rattle.decision.specs.declared.Monitor.{Monitor}
use Rattle.decision.specs.declared.Answer.TheVariants.{Refused, Loaded}
use Rattle.decision.specs.View.{view}
use Rattle.decision.specs.Answers.{Answers}
use Rattle.decision.proofs.AnswerLaws.{refused_as, loaded_as}

module _ (m : Monitor) (r : Rule) where
  pub rule_unfit : (x : Refusal) → some (number x) ≡ first_that (field_tests r) → Answers m (a_rule r) (record { answer = Refused x; monitor = m })
  unfolding tests_of rule_tests
  rule_unfit x e = refused_as m (a_rule r) x (first_some (field_tests r) _ (number x) (sym e))

  module _ (fit : none ≡ first_that (field_tests r)) (k : ℕ) (c : k ≡ count_of m.rules.fields) where
    loaded_count : length (view m).rules ≡ k
    unfolding view
    loaded_count = rules_length m.rules.sets m.rules.fields ∙ sym c

    -- the tests that go by the state
    by_state : (x y : Bool) → leb 32 (length (view m).rules) ≡ x → broken (view m) r ≡ y → first_that (tests_of (view m) (a_rule r)) ≡ first_that ((x ⇒ 11) ∷ (y ⇒ 12) ∷ [])
    unfolding tests_of rule_tests
    by_state x y f g = first_none (field_tests r) _ (sym fit) ∙ rw (f, g) refl

    pub rule_full : 32 ≤ k → Answers m (a_rule r) (record { answer = Refused RulesFull; monitor = m })
    unfolding first_that ◌⇒◌
    rule_full l = refused_as m (a_rule r) RulesFull (by_state true (broken (view m) r) (le-leb 32 (length (view m).rules) (rw loaded_count l)) refl)

    module _ (l : k < 32) (b : Bool) (f : b ≡ broken_in (items_in m.tracker.words) r.condition) where
      broken_is : broken (view m) r ≡ b
      unfolding view maps_of
      broken_is = sym (f ∙ broken_in_lem (view m) r)

      room : leb 32 (length (view m).rules) ≡ false
      room = lt-leb 32 (length (view m).rules) (rw loaded_count l)

      pub rule_broken : b ≡ true → Answers m (a_rule r) (record { answer = Refused BrokenAlready; monitor = m })
      unfolding first_that ◌⇒◌
      rule_broken h = refused_as m (a_rule r) BrokenAlready (by_state false true room (broken_is ∙ h))

      pub rule_loaded : b ≡ false → (s : Rules) → rules_of s.sets s.fields ≡ rules_of m.rules.sets m.rules.fields ++ (r ∷ [])
          → Answers m (a_rule r) (record { answer = Loaded k; monitor = record { tracker = m.tracker; rules = s } })
      unfolding tests_of first_that ◌⇒◌ view with_rule
      rule_loaded h s v = loaded_as m _ r (by_state false false room (broken_is ∙ h)) k (sym loaded_count) (rw v)

    -- what `store` asks
    pub store_asks : k < 32 → (count_of m.rules.fields < 32) × (r.substitute < 64)
    store_asks l = (rw (← c) l, fit_substitute r (sym fit))

-- What the fields of a rule are refused for, and a rule that they don't refuse.
use Prim.Native.Nat.{ℕ, ◌≤◌, ◌<◌}
use native.Mathlib.Omega.{arith}
use mathlib.Core.Path.{◌≡◌, refl, sym}
use mathlib.Core.Bool.{Bool, true, false, ◌&&◌}
use mathlib.Core.Option.{none, some}
use lib.Dec.{eqb, ltb}
use borrow.Author.Tests.{eqb-true, eq-eqb, ne_eqb, lt-ltb, le-ltb, not-false}
use Rattle.flow.specs.Lists.{◌⇒◌, first_that}
use Rattle.flow.specs.Box.{is_target, Rule}
use Rattle.flow.specs.Refusals.{items_fit, substitute_fits, same_items, field_tests}
use Rattle.flow.proofs.Bools.{and_r, chosen_l, chosen_r}
use Rattle.flow.proofs.TableLaws.{AllNone, all_none, untrue}
use Rattle.flow.proofs.Rows.{target_lt}
use Rattle.terms.specs.declared.rule.Condition.{Condition as Stated}
use Rattle.terms.specs.declared.rule.Condition.TheVariants.{Forbid, Separate, Confine}
use Rattle.terms.specs.Rules.{condition_in}
use Rattle.rules.specs.declared.action.Action.{Action}
use Rattle.rules.specs.declared.action.Action.TheVariants.{Inhibit, Divert}
use Rattle.rules.specs.Actions.{number, suits}

-- two items are compared in one condition only
pub other_items : (c : Stated) → ((i j : ℕ) → c ≡ Separate i j → ⊥) → false ≡ same_items (condition_in c)
unfolding same_items
other_items (Forbid i x) h = refl
other_items (Separate i j) h = absurd (h i j refl)
other_items (Confine i x) h = refl

-- ---- the tests in order, of an action that is known
suits_fits : (a : Action) (r : Rule) → r.action ≡ number a → suits a r.substitute ≡ substitute_fits r
unfolding substitute_fits
suits_fits Inhibit r e = sym (chosen_l _ _ _ (eq-eqb r.action 0 e))
suits_fits Divert r e = sym (chosen_r _ _ _ (ne_eqb r.action 0 (λ z. omega (arith, e, z))))

known : (a : Action) (n : ℕ) → n ≡ number a → ltb n 2 ≡ true
known Inhibit n e = lt-ltb n 2 (omega (arith, e))
known Divert n e = lt-ltb n 2 (omega (arith, e))

pub refused_action : (r : Rule) → 2 ≤ r.action → some 4 ≡ first_that (field_tests r)
unfolding first_that ◌⇒◌ field_tests
refused_action r h = rw (le-ltb _ 2 h)

module _ (a : Action) (r : Rule) (e : r.action ≡ number a) where
  pub refused_range : (items_fit r.condition && suits a r.substitute) ≡ false → some 5 ≡ first_that (field_tests r)
  unfolding first_that ◌⇒◌ field_tests
  refused_range h = rw (known a r.action e, sym (suits_fits a r e), h)

  module _ (h : (items_fit r.condition && suits a r.substitute) ≡ true) where
    pub refused_same : same_items r.condition ≡ true → some 9 ≡ first_that (field_tests r)
    unfolding first_that ◌⇒◌ field_tests
    refused_same s = rw (known a r.action e, sym (suits_fits a r e), h, s)

    pub unrefused : same_items r.condition ≡ false → none ≡ first_that (field_tests r)
    unfolding first_that ◌⇒◌ field_tests
    unrefused s = rw (known a r.action e, sym (suits_fits a r e), h, s)

-- ---- a rule that is not refused: its substitute is a container
pub fit_substitute : (r : Rule) → first_that (field_tests r) ≡ none → r.substitute < 64
unfolding field_tests AllNone substitute_fits
fit_substitute r e =
    let fits = not-false (items_fit r.condition && substitute_fits r) (untrue _ 5 (all_none (field_tests r) e).1.0) in
    go (eqb r.action 0) (and_r (items_fit r.condition) (substitute_fits r) fits)
  where
    go : (b : Bool) → ◌≡◌ {A = Bool} (elim b as (λ z. Bool) [ true ↦ eqb r.substitute 0 | false ↦ is_target r.substitute ]) true → r.substitute < 64
    go true h = omega (arith, eqb-true r.substitute 0 h)
    go false h = target_lt r.substitute h

-- The condition of a tag, and whether the items of a state break it.
use Prim.Native.Nat.{ℕ, ◌%◌, ◌^◌, ◌<◌}
use mathlib.Core.Path.{◌≡◌, refl, sym, ap, ◌∙◌}
use native.Mathlib.Omega.{arith}
use mathlib.Core.Bool.{Bool, false, ◌&&◌, ◌||◌, or-false}
use lib.Dec.{eqb}
use borrow.Author.Tests.{eqb-true, eqb-false, eq-eqb, ne_eqb}
use Rattle.sets.specs.Sets.{has}
use Rattle.sets.proofs.Members.{mod_out}
use Rattle.flow.specs.Box.{Condition, forbid, separate, confine, Rule, State, items_of, holds}
use Rattle.flow.specs.Lists.{some_below}
use Rattle.flow.specs.Rules.{breaks, broken}
use Rattle.flow.specs.Records.{condition_of}
use Rattle.flow.proofs.Bools.{by, or_false_l, or_false_r, or_false_i, chosen_l, chosen_r}
use Rattle.rules.specs.Judging.{touches, by_rests, breaks_with, broken_in}

module _ (tag item set : ℕ) where
  pub forbids_by : tag ≡ 0x11 → condition_of tag item set ≡ forbid item set
  unfolding condition_of
  forbids_by e = chosen_l (eqb tag 0x11) _ _ (eq-eqb tag 0x11 e)

  pub separates_by : tag ≡ 0x12 → condition_of tag item set ≡ separate item set
  unfolding condition_of
  separates_by e =
      chosen_r (eqb tag 0x11) _ _ (ne_eqb tag 0x11 (λ n. let z : ⊥ = omega arith in z)) ∙ chosen_l (eqb tag 0x12) _ _ (eq-eqb tag 0x12 e)

  pub confines_by : (tag ≡ 0x12 → ⊥) → (tag ≡ 0x11 → ⊥) → condition_of tag item set ≡ confine item set
  unfolding condition_of
  confines_by e n = chosen_r (eqb tag 0x11) _ _ (ne_eqb tag 0x11 n) ∙ chosen_r (eqb tag 0x12) _ _ (ne_eqb tag 0x12 e)

  -- by its items' rests by 64 it speaks of an item of the set x
  pub touches_is : (x : ℕ) → touches x (by_rests (condition_of tag item set)) ≡ (has x (item % 64) || (eqb tag 0x12 && has x (set % 64)))
  unfolding touches by_rests
  touches_is x =
      by (eqb tag 0x12) (λ q. ap near (separates_by (eqb-true tag 0x12 q)) ∙ rw q refl)
      (λ q. rw q (by (eqb tag 0x11) (λ p. ap near (forbids_by (eqb-true tag 0x11 p)) ∙ sym (or-false _)) (λ p. ap near (confines_by (eqb-false tag 0x12 q) (eqb-false tag 0x11 p)) ∙ sym (or-false _))))
    where
      near : Condition → Bool
      near c = touches x (by_rests c)

-- where it speaks of none by its items' rests by 64
pub touches_rest : (c : Condition) (x : ℕ) → x < 2 ^ 64 → touches x (by_rests c) ≡ false → touches x c ≡ false
unfolding touches by_rests
touches_rest (forbid i y) x h e = mod_out x i h e
touches_rest (separate i j) x h e =
    or_false_i (has x i) (has x j) (mod_out x i h (or_false_l (has x (i % 64)) (has x (j % 64)) e)) (mod_out x j h (or_false_r (has x (i % 64)) (has x (j % 64)) e))
touches_rest (confine i y) x h e = mod_out x i h e

-- a state breaks a rule where its items do
some_break : (s : State) (c : Condition) → broken_in s.items c ≡ some_below 64 (λ v. breaks s c v)
unfolding broken_in breaks_with breaks holds items_of
some_break s (forbid i x) = refl
some_break s (separate i j) = refl
some_break s (confine i x) = refl

pub broken_in_lem : (s : State) (r : Rule) → broken_in s.items r.condition ≡ broken s r
unfolding broken
broken_in_lem s r = some_break s r.condition

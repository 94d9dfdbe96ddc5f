-- Whether a plan breaks a condition anew, by the sets that get its items.
use Rattle.std.specs.Prelude.{Option, None}
use Prim.Native.Nat.{ℕ, ◌^◌, ◌<◌}
use mathlib.Core.Path.{◌≡◌, refl, sym, ap, ap₂, ◌∙◌}
use mathlib.Core.Bool.{Bool, false, ◌&&◌, ◌||◌}
use mathlib.Core.List.{List}
use lib.Bits.{or_zero_r, and_zero_l}
use Rattle.sets.specs.Sets.{has, ◌∪◌, ◌∩◌}
use Rattle.sets.proofs.Members.{union_has, none_has}
use Rattle.flow.specs.Box.{Condition, forbid, separate, confine}
use Rattle.flow.specs.Links.{meets}
use Rattle.flow.proofs.Bools.{or_false_l, or_false_r, chosen_r}
use Rattle.flow.proofs.TableLaws.{none_below}
use Rattle.store.specs.declared.Plan.{Plan}
use Rattle.rules.specs.Stored.{count_of}
use Rattle.rules.specs.Judging.{only_if, gets, keeps, some_keeps, breaks_anew, touches, by_rests, first_anew, breaks_rule, AnewFrom, Judged}
use Rattle.rules.proofs.Searching.{first_is, first_below}
use Rattle.rules.proofs.ConditionLaws.{touches_rest}

-- ---- what is not given breaks nothing
none_given : (x i to : ℕ) → has x i ≡ false → only_if (has x i) to ≡ 0
unfolding only_if
none_given x i to e = chosen_r (has x i) to 0 e

none_meet : (x : ℕ) → 0 ∩ x ≡ 0
unfolding ◌∩◌
none_meet x = and_zero_l x

module _ (plan : Plan) where
  abbrev gained : ℕ
  gained = plan.given ∪ plan.given2

  no_gets : (i : ℕ) → has gained i ≡ false → gets plan i ≡ 0
  unfolding gets ◌∪◌
  no_gets i e =
      let h : (has plan.given i || has plan.given2 i) ≡ false = sym (union_has plan.given plan.given2 i) ∙ e in
      rw (none_given plan.given i plan.to (or_false_l (has plan.given i) (has plan.given2 i) h), none_given plan.given2 i plan.to2 (or_false_r (has plan.given i) (has plan.given2 i) h))
      (or_zero_r 0)

  none_keeps : (items : List ℕ) (i : ℕ) → some_keeps items plan 0 i ≡ false
  unfolding some_keeps
  none_keeps items i = none_below 64 _ (λ v l. ap (λ (b : Bool). b && keeps items plan v i) (none_has v))

  pub untouched : (items : List ℕ) (c : Condition) → touches gained c ≡ false → breaks_anew items plan c ≡ false
  unfolding breaks_anew touches meets
  untouched items (forbid i x) e = rw (no_gets i e, none_meet x) refl
  untouched items (separate i j) e =
      rw (no_gets i (or_false_l (has gained i) (has gained j) e), no_gets j (or_false_r (has gained i) (has gained j) e), none_meet 0)
      (ap₂ ◌||◌ (none_keeps items j) (none_keeps items i))
  untouched items (confine i x) e = rw (no_gets i e, none_meet x) refl

  -- by its items' rests by 64
  pub far : (items : List ℕ) (c : Condition) → gained < 2 ^ 64 → touches gained (by_rests c) ≡ false → breaks_anew items plan c ≡ false
  far items c h e = untouched items c (touches_rest c gained h e)

  none_touched : gained ≡ 0 → (c : Condition) → touches gained c ≡ false
  unfolding touches
  none_touched e (forbid i x) = rw e (none_has i)
  none_touched e (separate i j) = rw (e, none_has i) (none_has j)
  none_touched e (confine i x) = rw e (none_has i)

  pub nothing_given : gained ≡ 0 → (items sets fields : List ℕ) → AnewFrom items plan sets fields 0 None
  nothing_given e items sets fields = λ j l m. untouched items _ (none_touched e _)

-- judging from rule 0 on
pub judges : (items : List ℕ) (plan : Plan) (sets fields : List ℕ) (r : Option ℕ) → plan.to < 2 ^ 64 → plan.to2 < 2 ^ 64
    → AnewFrom items plan sets fields 0 r → Judged items plan sets fields r
unfolding first_anew
judges items plan sets fields r h k w =
    record {
      small = h;
      small2 = k;
      number = first_is (breaks_rule items plan sets fields) (count_of fields) r w;
      below = first_below (breaks_rule items plan sets fields) (count_of fields) r w;
    }

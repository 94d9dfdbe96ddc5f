-- What the receivers of a gift hold once a plan is made tells whether the plan brings two items together.
use Prim.Native.Nat.{ℕ, ◌-◌, ◌^◌, ◌≤◌, ◌<◌}
use mathlib.Core.Path.{◌≡◌, refl, sym, ap, ap₂, ◌∙◌}
use mathlib.Core.Bool.{Bool, true, false, not, ◌&&◌, ◌||◌, and_comm, and-false, and-true, and-or_distrib_left, or-true, or_assoc}
use mathlib.Core.List.{List}
use lib.Bits.{and_comm as meet_comm}
use lib.Dec.{eqb}
use lib.ListN.{get_or}
use Rattle.sets.specs.Sets.{has, ◌∪◌, ◌∩◌}
use Rattle.sets.proofs.Members.{union_has, past_has, less_has}
use Rattle.flow.specs.Box.{separate}
use Rattle.flow.specs.Lists.{some_below}
use Rattle.flow.specs.Links.{meets}
use Rattle.flow.proofs.TableLaws.{none_below, some_same, some_or}
use Rattle.flow.proofs.Meets.{meets_some}
use Rattle.store.specs.declared.Plan.{Plan}
use Rattle.rules.specs.Judging.{gets, keeps, some_keeps, only_if, Held, Met, meet, breaks_anew}
use Rattle.rules.proofs.PlanLaws.{chosen_has, gets_has, gets_lt}

-- ---- no item is past 63
module _ (given met i j : ℕ) (h : given < 2 ^ 64) (k : met < 2 ^ 64) where
  pub past_first : 64 ≤ i → meet given met i j ≡ false
  unfolding meet
  past_first l = rw (past_has given i h l, past_has met i k l) (and-false (has given j))

  pub past_second : 64 ≤ j → meet given met i j ≡ false
  unfolding meet
  past_second l = rw (past_has given j h l, past_has met j k l, and-false (has given i)) refl

some_and : (n : ℕ) (f : ℕ → Bool) (b : Bool) → some_below n (λ i. f i && b) ≡ (some_below n f && b)
some_and n f true = some_same n (λ i l. and-true (f i)) ∙ sym (and-true (some_below n f))
some_and n f false = none_below n _ (λ i l. and-false (f i)) ∙ sym (and-false (some_below n f))

module _ (l : List ℕ) (plan : Plan) where
  -- ---- the items met
  -- s: in the set, h: held, e: emptied, t and u: in the two receivers, g and k: given
  parts : (s h e t g u k : Bool) → (((s && not e) && h) || ((s && t) && g) || ((s && u) && k)) ≡ (s && ((h && not e) || ((t && g) || (u && k))))
  parts true h e t g u k = ap (λ (b : Bool). b || (t && g) || (u && k)) (and_comm (not e) h) ∙ or_assoc (h && not e) (t && g) (u && k)
  parts false h e t g u k = refl

  only_has : (b : Bool) (x i : ℕ) → has (only_if b x) i ≡ (b && has x i)
  unfolding only_if
  only_has b x i = chosen_has b x i ∙ and_comm (has x i) b

  pub all_met : (set kept x y : ℕ) → set < 2 ^ 64 → plan.empty < 2 ^ 64 → Held l (set ∩ (2 ^ 64 - 1 - plan.empty)) kept
      → x ≡ only_if (meets set plan.to) plan.given → y ≡ only_if (meets set plan.to2) plan.given2 → Met l plan set (kept ∪ x ∪ y)
  unfolding keeps
  all_met set kept x y h k w p q = record { has_item = item }
    where
      gift : (given to z i : ℕ) → z ≡ only_if (meets set to) given → has z i ≡ some_below 64 (λ v. (has set v && has to v) && has given i)
      gift given to z i e =
          ap (λ (n : ℕ). has n i) e ∙ only_has (meets set to) given i
          ∙ ap (λ (b : Bool). b && has given i) (meets_some set to h) ∙ sym (some_and 64 (λ v. has set v && has to v) (has given i))

      item : (i : ℕ) → has (kept ∪ x ∪ y) i ≡ some_below 64 (λ v. has set v && (keeps l plan v i || has (gets plan i) v))
      item i =
          let f : ℕ → Bool = λ v. has (set ∩ (2 ^ 64 - 1 - plan.empty)) v && has (get_or l v 0) i in
          let g : ℕ → Bool = λ v. (has set v && has plan.to v) && has plan.given i in
          let u : ℕ → Bool = λ v. (has set v && has plan.to2 v) && has plan.given2 i in
          union_has (kept ∪ x) y i
          ∙ ap₂ ◌||◌ (union_has kept x i ∙ ap₂ ◌||◌ (w.has_item i) (gift _ _ x i p) ∙ sym (some_or 64 f g)) (gift _ _ y i q)
          ∙ sym (some_or 64 (λ v. f v || g v) u)
          ∙ some_same 64 {f = λ v. f v || g v || u v} {g = λ v. has set v && (keeps l plan v i || has (gets plan i) v)} (λ v b.
          rw (less_has set plan.empty v k b, gets_has plan i v)
          (parts (has set v) (has (get_or l v 0) i) (has plan.empty v) (has plan.to v) (has plan.given i) (has plan.to2 v) (has plan.given2 i)))

  -- ---- two items brought together
  module _ (small : plan.to < 2 ^ 64) (small2 : plan.to2 < 2 ^ 64) (first second : ℕ) (m : Met l plan plan.to first) (n : Met l plan plan.to2 second) where
    spread : (t g u k a : Bool) → (((t && a) && g) || ((u && a) && k)) ≡ (((t && g) || (u && k)) && a)
    spread t g u k true = rw (and-true t, and-true u, and-true ((t && g) || (u && k))) refl
    spread t g u k false = rw (and-false t, and-false u, and-false ((t && g) || (u && k))) refl

    -- item i meets item j
    meets_one : (i j : ℕ) → ((has plan.given i && has first j) || (has plan.given2 i && has second j)) ≡ (some_keeps l plan (gets plan i) j || meets (gets plan i) (gets plan j))
    unfolding some_keeps
    meets_one i j =
        let a : ℕ → Bool = λ v. keeps l plan v j || has (gets plan j) v in
        let f : ℕ → Bool = λ v. (has plan.to v && a v) && has plan.given i in
        let g : ℕ → Bool = λ v. (has plan.to2 v && a v) && has plan.given2 i in
        ap₂ ◌||◌ (one plan.to plan.given first m) (one plan.to2 plan.given2 second n) ∙ sym (some_or 64 f g)
        ∙ some_same 64 {f = λ v. f v || g v} {g = λ v. (has (gets plan i) v && keeps l plan v j) || (has (gets plan i) v && has (gets plan j) v)} (λ v b.
        spread (has plan.to v) (has plan.given i) (has plan.to2 v) (has plan.given2 i) (a v)
        ∙ ap (λ (b : Bool). b && a v) (sym (gets_has plan i v)) ∙ and-or_distrib_left (has (gets plan i) v) (keeps l plan v j) (has (gets plan j) v))
        ∙ some_or 64 (λ v. has (gets plan i) v && keeps l plan v j) (λ v. has (gets plan i) v && has (gets plan j) v)
        ∙ ap (λ (b : Bool). some_keeps l plan (gets plan i) j || b) (sym (meets_some (gets plan i) (gets plan j) (gets_lt plan small small2 i)))
      where
        one : (to given met : ℕ) → Met l plan to met → (has given i && has met j) ≡ some_below 64 (λ v. (has to v && (keeps l plan v j || has (gets plan j) v)) && has given i)
        one to given met w =
            and_comm (has given i) (has met j) ∙ ap (λ (b : Bool). b && has given i) (w.has_item j)
            ∙ sym (some_and 64 (λ v. has to v && (keeps l plan v j || has (gets plan j) v)) (has given i))

    meets_sym : (x y : ℕ) → meets x y ≡ meets y x
    unfolding meets ◌∩◌
    meets_sym x y = ap (λ (z : ℕ). not (eqb z 0)) (meet_comm x y)

    swap : (a b c d : Bool) → ((a || b) || (c || d)) ≡ ((a || c) || (b || d))
    swap true b c d = refl
    swap false true c d = sym (or-true c)
    swap false false c d = refl

    gather : (x y z : Bool) → ((x || z) || (y || z)) ≡ (z || x || y)
    gather true y z = sym (rw (or-true z) refl)
    gather false true z = or-true z ∙ sym (or-true (z || false))
    gather false false true = refl
    gather false false false = refl

    order : (a b c d x y z : Bool) → (a || c) ≡ (x || z) → (b || d) ≡ (y || z) → ((a || b) || (c || d)) ≡ (z || x || y)
    order a b c d x y z e f = swap a b c d ∙ ap₂ ◌||◌ e f ∙ gather x y z

    pub joined : (i j : ℕ) → (meet plan.given first i j || meet plan.given2 second i j) ≡ breaks_anew l plan (separate i j)
    unfolding meet breaks_anew
    joined i j =
        order (has plan.given i && has first j) (has plan.given j && has first i) (has plan.given2 i && has second j) (has plan.given2 j && has second i)
        (some_keeps l plan (gets plan i) j) (some_keeps l plan (gets plan j) i) (meets (gets plan i) (gets plan j))
        (meets_one i j) (meets_one j i ∙ ap (λ (b : Bool). some_keeps l plan (gets plan j) i || b) (meets_sym (gets plan j) (gets plan i)))

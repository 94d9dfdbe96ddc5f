-- Sets that have a common member, and sets that are no part of another.
use Prim.Native.Nat.{ℕ, zero, suc, ◌^◌, ◌<◌}
use native.Mathlib.Omega.{arith}
use mathlib.Core.Path.{◌≡◌, refl, sym, ap, ◌∙◌}
use mathlib.Core.Bool.{Bool, true, false, not, ◌&&◌}
use lib.Dec.{eqb}
use borrow.Author.Tests.{eqb-true, eqb-false, eq-eqb, ne_eqb}
use Rattle.sets.specs.Sets.{has, ◌∩◌}
use Rattle.sets.proofs.Members.{inter_has, inter_lt, none_has, has_lt, set_ext, some_member}
use Rattle.flow.specs.Lists.{some_below}
use Rattle.flow.specs.Links.{meets}
use Rattle.flow.proofs.Bools.{and_l, and_r, and_i, by, no_both}
use Rattle.flow.proofs.TableLaws.{some_of_lem, none_of, none_below}

pub meets_true : (x y : ℕ) → (x ∩ y ≡ 0 → ⊥) → meets x y ≡ true
unfolding meets
meets_true x y d = ap not (ne_eqb (x ∩ y) 0 d)

pub meets_false : (x y : ℕ) → x ∩ y ≡ 0 → meets x y ≡ false
unfolding meets
meets_false x y e = ap not (eq-eqb (x ∩ y) 0 e)

pub meets_of : (x y i : ℕ) → has x i ≡ true → has y i ≡ true → meets x y ≡ true
unfolding meets
meets_of x y i h k =
    by (eqb (x ∩ y) 0)
    (λ e. no_both (inter_has x y i ∙ and_i (has x i) _ h k) (ap (λ (z : ℕ). has z i) (eqb-true (x ∩ y) 0 e) ∙ none_has i))
    (λ e. ap not e)

pub meets_at : (x y : ℕ) → meets x y ≡ true → (i : ℕ) × (has x i ≡ true) × (has y i ≡ true)
unfolding meets
meets_at x y h = go (eqb (x ∩ y) 0) refl h
  where
    go : (b : Bool) → eqb (x ∩ y) 0 ≡ b → not b ≡ true → (i : ℕ) × (has x i ≡ true) × (has y i ≡ true)
    go true e f = no_both {b = not true} f refl
    go false e f =
        let n : (x ∩ y) ≡ 0 → ⊥ = eqb-false (x ∩ y) 0 e in
        let l : 0 < (x ∩ y) = omega arith in
        let w = some_member (x ∩ y) l in
        let m : (has x w.0 && has y w.0) ≡ true = sym (inter_has x y w.0) ∙ w.1 in
        (w.0, and_l _ (has y w.0) m, and_r (has x w.0) _ m)

-- ---- a set y, and a set x below 2 ^ 64
positive : (n : ℕ) → (n ≡ 0 → ⊥) → 0 < n
positive zero h = absurd (h refl)
positive (suc n) h = omega arith

module _ (x y : ℕ) (small : x < 2 ^ 64) where
  -- they meet where some member of x is in y
  pub meets_some : meets x y ≡ some_below 64 (λ v. has x v && has y v)
  unfolding meets
  meets_some =
      by (eqb (x ∩ y) 0)
      (λ e. ap not e ∙ sym (none_below 64 _ (λ i l. sym (inter_has x y i) ∙ ap (λ (z : ℕ). has z i) (eqb-true _ _ e) ∙ none_has i)))
      (λ e. ap not e ∙ sym (member (some_member (x ∩ y) (positive (x ∩ y) (eqb-false _ _ e)))))
    where
      member : (i : ℕ) × (has (x ∩ y) i ≡ true) → some_below 64 (λ v. has x v && has y v) ≡ true
      member w = some_of_lem 64 (λ v. has x v && has y v) w.0 (has_lt (x ∩ y) w.0 (inter_lt x y small) w.1) (sym (inter_has x y w.0) ∙ w.1)

  inside : (a b : Bool) → a ≡ (a && b) → (a && not b) ≡ false
  inside true true e = refl
  inside true false e = e
  inside false b e = refl

  all_inside : (a b : Bool) → (a && not b) ≡ false → (a && b) ≡ a
  all_inside true true e = refl
  all_inside true false e = sym e
  all_inside false b e = refl

  -- x is no part of y where some member of x is outside y
  pub outside_some : not (eqb (x ∩ y) x) ≡ some_below 64 (λ v. has x v && not (has y v))
  outside_some =
      by (eqb (x ∩ y) x)
      (λ e. ap not e ∙ sym (none_below 64 _ (λ i l. inside (has x i) (has y i) (ap (λ (z : ℕ). has z i) (sym (eqb-true _ _ e)) ∙ inter_has x y i))))
      (λ e. ap not e ∙ by (some_below 64 (λ v. has x v && not (has y v))) (λ h. sym h) (λ h. absurd (eqb-false _ _ e (part h))))
    where
      part : some_below 64 (λ v. has x v && not (has y v)) ≡ false → (x ∩ y) ≡ x
      part h = set_ext (x ∩ y) x (inter_lt x y small) small (λ i l. inter_has x y i ∙ all_inside (has x i) (has y i) (none_of 64 _ i h l))

-- Which containers gain, by the items before and after (02, Paper 5).
use Prim.Native.Nat.{ℕ, ◌^◌, ◌<◌}
use native.Mathlib.Omega.{arith}
use mathlib.Core.Path.{◌≡◌, refl, sym, ap, ◌∙◌}
use mathlib.Core.Bool.{Bool, true, false, not, ◌&&◌}
use mathlib.Core.List.{List}
use lib.Dec.{eqb}
use lib.ListN.{get_or}
use borrow.Author.Tests.{not-true, not-false, eqb-true, eq-eqb}
use Rattle.sets.specs.Sets.{has, ◌∪◌}
use Rattle.sets.proofs.Members.{those_has, those_lt, none_has, union_has, has_lt, has_below, lt_pow, set_ext, same_set}
use Rattle.sets.proofs.Rising.{members_le}
use Rattle.flow.specs.Lists.{some_below}
use Rattle.flow.specs.Gained.{has_more, gained}
use Rattle.flow.specs.Consequences.{GainedExactly, GainedAtMost}
use Rattle.flow.proofs.Bools.{by, no_both, and_l, and_r, and_i, or_elim, or_r, same}
use Rattle.flow.proofs.TableLaws.{none_of, some_at}

-- ---- one container
-- it lacked nothing that it holds
pub more_none : (x y : ℕ) → ((i : ℕ) → has y i ≡ true → has x i ≡ true) → has_more x y ≡ false
unfolding has_more
more_none x y less =
    ap not (eq-eqb (x ∪ y) x (same_set (x ∪ y) x (λ i. same _ _ (λ e. or_elim (has x i) (has y i) (λ h. h) (less i) (sym (union_has x y i) ∙ e)) (λ e. union_has x y i ∙ rw e refl))))

pub lacked_none : (x y : ℕ) → has_more x y ≡ false → (i : ℕ) → has y i ≡ true → has x i ≡ true
unfolding has_more
lacked_none x y e i h =
    let s : x ∪ y ≡ x = eqb-true (x ∪ y) x (not-false (eqb (x ∪ y) x) e) in
    ap (λ (z : ℕ). has z i) (sym s) ∙ union_has x y i ∙ or_r (has x i) _ h

-- it holds an item that it lacked
pub more_some : (x y i : ℕ) → has y i ≡ true → has x i ≡ false → has_more x y ≡ true
more_some x y i h k = by (has_more x y) (λ e. e) (λ e. no_both (lacked_none x y e i h) k)

pub some_more : (x y : ℕ) → has_more x y ≡ true → (i : ℕ) × (has y i ≡ true) × (has x i ≡ false)
some_more x y e =
    by (some_below y lacks)
    (λ h. let z = some_at y lacks h in (z.0, and_l (has y z.0) _ z.2, not-true (has x z.0) (and_r (has y z.0) _ z.2)))
    (λ h. no_both e (more_none x y (λ i m. by (has x i) (λ k. k) (λ k. no_both (and_i (has y i) (not (has x i)) m (ap not k)) (none_of y lacks i h (has_below y y i (lt_pow y) m))))))
  where
    lacks : ℕ → Bool
    lacks i = has y i && not (has x i)

-- ---- all of them
pub gained_lt : (b a : List ℕ) → gained b a < 2 ^ 64
unfolding gained
gained_lt b a = those_lt _

pub gained_at : (b a : List ℕ) (c : ℕ) → c < 64 → has (gained b a) c ≡ has_more (get_or b c 0) (get_or a c 0)
unfolding gained
gained_at b a c h = those_has _ c h

-- a set of containers is that of those that gained
pub gained_is : (b a : List ℕ) (x : ℕ) → x < 2 ^ 64 → ((c : ℕ) → c < 64 → has x c ≡ has_more (get_or b c 0) (get_or a c 0)) → x ≡ gained b a
gained_is b a x l f = set_ext x (gained b a) l (gained_lt b a) (λ c h. f c h ∙ sym (gained_at b a c h))

pub gained_none : (b a : List ℕ) → ((c i : ℕ) → c < 64 → has (get_or a c 0) i ≡ true → has (get_or b c 0) i ≡ true) → gained b a ≡ 0
gained_none b a less = sym (gained_is b a 0 (omega arith) (λ c h. none_has c ∙ sym (more_none (get_or b c 0) (get_or a c 0) (λ i. less c i h))))

pub none_gained : (b a : List ℕ) → gained b a ≡ 0 → (c i : ℕ) → c < 64 → has (get_or a c 0) i ≡ true → has (get_or b c 0) i ≡ true
none_gained b a e c i h = lacked_none _ _ (sym (gained_at b a c h) ∙ ap (λ (z : ℕ). has z c) e ∙ none_has c) i

pub gained_exactly : GainedExactly
unfolding GainedExactly
gained_exactly b a c = (
  λ e. let h : c < 64 = has_lt (gained b a) c (gained_lt b a) e in (h, some_more (get_or b c 0) (get_or a c 0) (sym (gained_at b a c h) ∙ e)),
  λ e. gained_at b a c e.0 ∙ more_some (get_or b c 0) (get_or a c 0) e.1.0 e.1.1 e.1.2,
)

pub gained_at_most : GainedAtMost
unfolding GainedAtMost
gained_at_most b a = members_le (gained b a) (gained_lt b a)

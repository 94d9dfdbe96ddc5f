-- Laws of unions, of two sets and of all sets of a list.
use Prim.Native.Nat.{ℕ, zero, suc, ◌+◌, ◌<◌}
use native.Mathlib.Nat.{not-suc-le-zero, le_of_suc-le-suc}
use native.Mathlib.Numerals.{add-one}
use mathlib.Core.Path.{◌≡◌, refl, sym, ap, ◌∙◌}
use mathlib.Core.Bool.{true, or_assoc, or-true}
use mathlib.Core.List.{List, [], ◌∷◌}
use lib.Bits.{or_comm as bits-comm, or_zero_l}
use lib.ListN.{length, get_or, take}
use Rattle.sets.specs.Sets.{has, ◌∪◌, union_of}
use Rattle.sets.proofs.Members.{union_has, same_set}

-- ---- what joins all elements, over one element more
module _ {B : Type 0} (all : List ℕ → B) (join : B → B → B) (one : ℕ → B)
    (cons : (x : ℕ) (l : List ℕ) → all (x ∷ l) ≡ join (one x) (all l))
    (assoc : (x y z : B) → join (join x y) z ≡ join x (join y z))
    (comm : (x y : B) → join x y ≡ join y x) where
  all_suc : (l : List ℕ) (i : ℕ) → i < length l → all (take (suc i) l) ≡ join (all (take i l)) (one (get_or l i 0))
  all_suc [] i h = absurd (not-suc-le-zero h)
  all_suc (x ∷ l) zero h = cons x [] ∙ comm (one x) (all [])
  all_suc (x ∷ l) (suc i) h =
      cons x (take (suc i) l) ∙ ap (join (one x)) (all_suc l i (le_of_suc-le-suc h))
      ∙ sym (assoc (one x) (all (take i l)) (one (get_or l i 0))) ∙ ap (λ (b : B). join b (one (get_or l i 0))) (sym (cons x (take i l)))

  pub all_more : (l : List ℕ) (i : ℕ) → i < length l → all (take (i + 1) l) ≡ join (all (take i l)) (one (get_or l i 0))
  all_more l i h = rw (add-one i) (all_suc l i h)

-- ---- two sets
pub union_assoc : (x y z : ℕ) → (x ∪ y) ∪ z ≡ x ∪ (y ∪ z)
union_assoc x y z = same_set _ _ (λ i. simp union_has (or_assoc (has x i) (has y i) (has z i)))

pub union_comm : (x y : ℕ) → x ∪ y ≡ y ∪ x
unfolding ◌∪◌
union_comm x y = bits-comm x y

pub none_union : (x : ℕ) → 0 ∪ x ≡ x
unfolding ◌∪◌
none_union x = or_zero_l x

pub union_none : (x : ℕ) → x ∪ 0 ≡ x
union_none x = union_comm x 0 ∙ none_union x

-- ---- the sets of a list
pub union_of_more : (l : List ℕ) (i : ℕ) → i < length l → union_of (take (i + 1) l) ≡ union_of (take i l) ∪ get_or l i 0
unfolding union_of
union_of_more = all_more union_of ◌∪◌ (λ x. x) (λ x l. refl) union_assoc union_comm

pub union_of_part : (l : List ℕ) (p i : ℕ) → p < length l → has (get_or l p 0) i ≡ true → has (union_of l) i ≡ true
unfolding union_of
union_of_part [] p i h m = absurd (not-suc-le-zero h)
union_of_part (x ∷ l) zero i h m = union_has x (union_of l) i ∙ rw m refl
union_of_part (x ∷ l) (suc p) i h m = union_has x (union_of l) i ∙ rw (union_of_part l p i (le_of_suc-le-suc h) m) (or-true (has x i))

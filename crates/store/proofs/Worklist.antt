-- Loops that go over the members of a set, the lowest of what is left in each turn: gifts, and emptying.
use Prim.Native.Nat.{ℕ, ◌%◌, ◌<◌, ◌^◌}
use native.Mathlib.Omega.{arith}
use native.Mathlib.Decide.{ℕ_discrete}
use mathlib.Core.Path.{◌≡◌, refl, sym, ap, ap₂, subst, ◌∙◌}
use mathlib.Core.Bool.{Bool, true, false}
use mathlib.Core.List.{List}
use lib.ListN.{get_or, set, length, length-set}
use lib.Seq.{get_or-set_same, get_or-set_other}
use borrow.Author.Tests.{eq-eqb, ne_eqb}
use Rattle.sets.specs.Sets.{has, only, without, lowest, ◌∪◌}
use Rattle.sets.proofs.Members.{itself, without_lt, without_at, without_other, none_has, only_has, member, turn_below}
use Rattle.flow.specs.Lists.{table}
use Rattle.flow.specs.Links.{given}
use Rattle.flow.proofs.Bools.{chosen_l, chosen_r}
use Rattle.flow.proofs.TableLaws.{table_at, table_length, is_table}
use Rattle.store.specs.Maps.{cleared}

-- ---- the loop: each member of the set r has its cell y replaced by f y
abbrev pub mapped : (ℕ → ℕ) → List ℕ → ℕ → List ℕ
mapped f l r = table 64 (λ v. elim (has r v) [ true ↦ f (get_or l v 0) | false ↦ get_or l v 0 ])

-- what is left leads to the whole
pub record Working (f : ℕ → ℕ) (items₀ : List ℕ) (r : ℕ) (items : List ℕ) (left : ℕ) : Type 0 where
  pub long : length items ≡ 64
  pub small : left < 2 ^ 64
  pub same : mapped f items left ≡ mapped f items₀ r

module _ (f : ℕ → ℕ) where
  -- of the empty set, nothing
  mapped_none : (l : List ℕ) → length l ≡ 64 → l ≡ mapped f l 0
  mapped_none l e = is_table 64 _ l e (λ i h. sym (chosen_r (has 0 i) (f (get_or l i 0)) (get_or l i 0) (none_has i)))

  one : (l : List ℕ) (r v : ℕ) → length l ≡ 64 → v < 64 → has r v ≡ true → mapped f (set l v (f (get_or l v 0))) (without r v) ≡ mapped f l r
  one l r v e h m = is_table 64 _ _ (table_length 64 _) (λ i k. table_at 64 _ i 0 k ∙ go i k (ℕ_discrete i v))
    where
      go : (i : ℕ) → i < 64 → Dec (i ≡ v)
          → ◌≡◌ {A = ℕ} (elim (has (without r v) i) [ true ↦ f (get_or (set l v (f (get_or l v 0))) i 0) | false ↦ get_or (set l v (f (get_or l v 0))) i 0 ]) (elim (has r i) [ true ↦ f (get_or l i 0) | false ↦ get_or l i 0 ])
      go i k (yes d) = rw (without_at r v i k d, d, get_or-set_same l v (f (get_or l v 0)) 0 (omega arith), m, d)
      go i k (no d) = ap₂ (λ (b : Bool) (y : ℕ). elim b as (λ z. ℕ) [ true ↦ f y | false ↦ y ]) (without_other r v i k d) (get_or-set_other l v i (f (get_or l v 0)) 0 d)

  module _ {items₀ : List ℕ} {r : ℕ} {items : List ℕ} {left : ℕ} (w : Working f items₀ r items left) where
    pub working_more : (left ≡ 0 → ⊥) → (v : ℕ) → v ≡ lowest left → (items' : List ℕ) (later : ℕ) → items' ≡ set items (v % 64) (f (get_or items (v % 64) 0)) → later ≡ without left (lowest left)
        → Working f items₀ r items' later
    working_more more v is items' later e g =
        let k : v % 64 ≡ v = itself left w.small more v is in
        let a : items' ≡ set items v (f (get_or items v 0)) = e ∙ ap (λ (n : ℕ). set items n (f (get_or items n 0))) k in
        let b : later ≡ without left v = g ∙ ap (without left) (sym is) in
        record {
          long = ap length a ∙ length-set items v _ ∙ w.long;
          small = subst (λ (n : ℕ). n < 2 ^ 64) (sym b) (without_lt left v);
          same = ap₂ (mapped f) a b ∙ one items left v w.long (turn_below left w.small more v is) (member left w.small more v is) ∙ w.same;
        }

    pub working_end : left ≡ 0 → items ≡ mapped f items₀ r
    working_end e = mapped_none items w.long ∙ ap (mapped f items) (sym e) ∙ w.same

-- ---- the two kinds of turn
pub given_mapped : (l : List ℕ) (r x : ℕ) → mapped (λ y. y ∪ x) l r ≡ given l r x
unfolding given
given_mapped l r x = refl

pub cleared_mapped : (l : List ℕ) (r : ℕ) → mapped (λ y. 0) l r ≡ cleared l r
unfolding cleared
cleared_mapped l r = refl

-- one container alone
pub cleared_one : (l : List ℕ) (v : ℕ) → length l ≡ 64 → v < 64 → set l v 0 ≡ cleared l (only v)
unfolding cleared
cleared_one l v e h = is_table 64 _ (set l v 0) (length-set l v 0 ∙ e) (λ i k. go i (ℕ_discrete i v))
  where
    go : (i : ℕ) → Dec (i ≡ v) → ◌≡◌ {A = ℕ} (get_or (set l v 0) i 0) (elim (has (only v) i) [ true ↦ 0 | false ↦ get_or l i 0 ])
    go i (yes d) = ap (λ (j : ℕ). get_or (set l v 0) j 0) d ∙ get_or-set_same l v 0 0 (omega arith) ∙ sym (chosen_l (has (only v) i) 0 _ (only_has v i ∙ eq-eqb v i (sym d)))
    go i (no d) = get_or-set_other l v i 0 0 d ∙ sym (chosen_r (has (only v) i) 0 _ (only_has v i ∙ ne_eqb v i (λ q. d (sym q))))

-- none
pub cleared_none : (l : List ℕ) → length l ≡ 64 → l ≡ cleared l 0
unfolding cleared
cleared_none = mapped_none (λ y. 0)

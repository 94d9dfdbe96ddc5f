-- A loop that takes the lowest member of a set in each turn and gathers its items, until none is left.
use Prim.Native.Nat.{ℕ, ◌<◌, ◌^◌}
use native.Mathlib.Decide.{ℕ_discrete}
use mathlib.Core.Path.{◌≡◌, refl, sym, ap, ◌∙◌}
use mathlib.Core.Bool.{Bool, true, false, ◌&&◌, ◌||◌, and-false, or-false, or_assoc}
use mathlib.Core.List.{List}
use lib.ListN.{get_or}
use Rattle.sets.specs.Sets.{has, ◌∪◌, without, lowest}
use Rattle.sets.proofs.Members.{union_has, without_lt, without_at, without_other, none_has, member, turn_below}
use Rattle.flow.specs.Lists.{some_below}
use Rattle.flow.proofs.Bools.{by, and_i}
use Rattle.flow.proofs.TableLaws.{some_of_lem, none_below, some_same}
use Rattle.rules.specs.Judging.{Held}

-- some member of x is one that f holds of
abbrev pub some_of : (ℕ → Bool) → ℕ → Bool
some_of f x = some_below 64 (λ v. has x v && f v)

-- found are the items of those gone through, left the rest of the set
pub record Gathering (items : List ℕ) (set found left : ℕ) : Type 0 where
  pub small : left < 2 ^ 64
  pub same : (i : ℕ) → (has found i || some_of (λ v. has (get_or items v 0) i) left) ≡ some_of (λ v. has (get_or items v 0) i) set

module _ (items : List ℕ) (set : ℕ) where
  pub gather_start : set < 2 ^ 64 → Gathering items set 0 set
  gather_start h = record { small = h; same = λ i. rw (none_has i) refl }

  pub gather_end : (found left : ℕ) → Gathering items set found left → left ≡ 0 → Held items set found
  gather_end found left w e =
      record {
        has_item = λ i.
            sym (or-false (has found i))
            ∙ ap (λ (b : Bool). has found i || b) (sym (none_below 64 _ (λ v l. rw (e, none_has v) refl)))
            ∙ w.same i;
      }

  -- ---- one turn: v is the lowest of those left
  module _ (found left : ℕ) (w : Gathering items set found left) (more : left ≡ 0 → ⊥) (v : ℕ) (is : v ≡ lowest left) where
    own : has left v ≡ true
    own = member left w.small more v is

    below : v < 64
    below = turn_below left w.small more v is

    -- v and the rest
    split : (f : ℕ → Bool) → (f v || some_of f (without left v)) ≡ some_of f left
    split f =
        by (f v)
        (λ e. rw e (sym (some_of_lem 64 (λ v. has left v && f v) v below (and_i (has left v) (f v) own e))))
        (λ e. rw e (some_same 64 (λ i l. at e i l (ℕ_discrete i v))))
      where
        at : f v ≡ false → (i : ℕ) → i < 64 → Dec (i ≡ v) → (has (without left v) i && f i) ≡ (has left i && f i)
        at e i l (yes d) = ap (λ (b : Bool). b && f i) (without_at left v i l d) ∙ sym (ap (λ (b : Bool). has left i && b) (ap f d ∙ e) ∙ and-false (has left i))
        at e i l (no d) = ap (λ (b : Bool). b && f i) (without_other left v i l d)

    pub gather_more : (x later : ℕ) → x ≡ get_or items v 0 → later ≡ without left (lowest left) → Gathering items set (found ∪ x) later
    gather_more x later e q =
        let p : later ≡ without left v = q ∙ ap (without left) (sym is) in
        record {
          small = rw p (without_lt left v);
          same = λ i.
              rw (p, union_has found x i, e, or_assoc (has found i))
              (ap (λ (b : Bool). has found i || b) (split (λ v. has (get_or items v 0) i)) ∙ w.same i);
        }

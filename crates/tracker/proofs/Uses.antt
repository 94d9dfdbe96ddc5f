-- What stands in a list, after stores.
use Prim.Native.Nat.{ℕ, zero, suc, ◌+◌, ◌<◌}
use native.Mathlib.Omega.{arith}
use native.Mathlib.Nat.{not-suc-le-zero}
use mathlib.Core.Path.{◌≡◌, refl, sym, ap, ◌∙◌}
use mathlib.Core.Bool.{Bool, true, false, ◌||◌, or_assoc}
use mathlib.Core.List.{List, [], ◌∷◌, ◌++◌}
use lib.Dec.{eqb}
use lib.ListN.{get_or, length, set, take, drop, take-append-drop}
use lib.Seq.{take-add}
use borrow.Author.Tests.{eqb-false, eq-eqb, ne_eqb}
use Rattle.flow.specs.Lists.{is_in}
use Rattle.flow.specs.Box.{closed, slot, descriptor_count}
use Rattle.flow.specs.Calls.{put_block, block}
use Rattle.flow.proofs.Bools.{or_elim, or_l, or_r, by, no_both, choice, chosen_l, chosen_r}
use Rattle.flow.proofs.TableLaws.{is_in_cons}

-- what stands in a list still does once an element is set, unless it was that element and is not the new one
pub is_in_set : (l : List ℕ) (i e c : ℕ) → (get_or l i closed ≡ c → c ≡ e) → is_in c l ≡ true → is_in c (set l i e) ≡ true
unfolding is_in
is_in_set [] i e c n h = h
is_in_set (x ∷ l) zero e c n h =
    choice (λ b. b ≡ true) (eqb c e) true (is_in c l) (λ q. refl)
    (λ q. sym (chosen_r (eqb c x) true (is_in c l) (ne_eqb c x (λ d. eqb-false c e q (n (sym d))))) ∙ h)
is_in_set (x ∷ l) (suc i) e c n h =
    by (eqb c x)
    (λ q. chosen_l (eqb c x) true _ q)
    (λ q. chosen_r (eqb c x) true _ q ∙ is_in_set l i e c n (sym (chosen_r (eqb c x) true _ q) ∙ h))

-- and what is stored stands there
pub is_in_stored : (l : List ℕ) (i e : ℕ) → i < length l → is_in e (set l i e) ≡ true
unfolding is_in
is_in_stored [] i e h = absurd (not-suc-le-zero h)
is_in_stored (x ∷ l) zero e h = chosen_l (eqb e e) true _ (eq-eqb e e refl)
is_in_stored (x ∷ l) (suc i) e h = choice (λ b. b ≡ true) (eqb e x) true _ (λ q. refl) (λ q. is_in_stored l i e (omega arith))

pub is_in_append : (c : ℕ) (l m : List ℕ) → is_in c (l ++ m) ≡ (is_in c l || is_in c m)
unfolding is_in
is_in_append c [] m = refl
is_in_append c (x ∷ l) m = is_in_cons c x (l ++ m) ∙ ap (λ (b : Bool). eqb c x || b) (is_in_append c l m) ∙ sym (or_assoc (eqb c x) (is_in c l) (is_in c m)) ∙ ap (λ (b : Bool). b || is_in c m) (sym (is_in_cons c x l))

-- ---- the descriptors of one process
-- the list is what stands before them, they themselves, and what follows
pub block_split : (l : List ℕ) (p : ℕ) → put_block l p (block l p) ≡ l
unfolding put_block block
block_split l p =
    let e : slot p 0 + descriptor_count ≡ slot p descriptor_count = omega arith in
    ap (λ (x : List ℕ). x ++ drop (slot p descriptor_count) l) (sym (take-add (slot p 0) descriptor_count l) ∙ ap (λ (n : ℕ). take n l) e)
    ∙ take-append-drop (slot p descriptor_count) l

module _ (l : List ℕ) (p : ℕ) where
  put_in : (m : List ℕ) (c : ℕ) → is_in c (put_block l p m) ≡ (is_in c (take (slot p 0) l) || is_in c m || is_in c (drop (slot p descriptor_count) l))
  unfolding put_block
  put_in m c = is_in_append c (take (slot p 0) l ++ m) (drop (slot p descriptor_count) l) ∙ rw (is_in_append c (take (slot p 0) l) m) refl

  -- what stands in a block stands in the list
  pub block_in : (c : ℕ) → is_in c (block l p) ≡ true → is_in c l ≡ true
  block_in c h =
      ap (is_in c) (sym (block_split l p)) ∙ put_in (block l p) c
      ∙ or_l (is_in c (take (slot p 0) l) || is_in c (block l p)) _ (or_r (is_in c (take (slot p 0) l)) _ h)

  -- what stands in the list and not in a block still does once the block is replaced
  pub put_kept : (m : List ℕ) (c : ℕ) → is_in c (block l p) ≡ false → is_in c l ≡ true → is_in c (put_block l p m) ≡ true
  put_kept m c n h =
      put_in m c
      ∙ or_elim (is_in c (take (slot p 0) l) || is_in c (block l p)) (is_in c (drop (slot p descriptor_count) l))
      (or_elim (is_in c (take (slot p 0) l)) (is_in c (block l p)) (λ q. or_l (is_in c (take (slot p 0) l) || is_in c m) _ (or_l (is_in c (take (slot p 0) l)) (is_in c m) q)) (λ q. no_both q n))
      (or_r (is_in c (take (slot p 0) l) || is_in c m) _)
      (sym (put_in (block l p) c) ∙ ap (is_in c) (block_split l p) ∙ h)

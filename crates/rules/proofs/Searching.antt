-- The first number that a test holds of, and the rule found by it.
use Prim.Native.Nat.{ℕ, zero, suc, ◌+◌, ◌≤◌, ◌<◌}
use native.Mathlib.Omega.{arith}
use mathlib.Core.Path.{◌≡◌, refl, sym, ap, ◌∙◌}
use mathlib.Core.Bool.{Bool, true, false}
use mathlib.Core.Option.{none, some}
use native.Mathlib.Decide.{ℕ_discrete}
use Rattle.std.specs.Bool.{MatchBool}
use Rattle.std.specs.List.{range_with_len, HoldsAt, AllWithin}
use Rattle.std.proofs.lemmas.List.FromFn.{get_or-range_with_len, length-range_with_len}
use Rattle.std.specs.Prelude.{Option, Some, None, IfSome, unwrap_or}
use lib.Dec.{eqb, ltb}
use lib.ListN.{get_or, length}
use borrow.Author.Tests.{eq-eqb, ne_eqb, ltb-true, ltb-false}
use Rattle.flow.specs.Box.{Rule}
use Rattle.flow.specs.Lists.{some_below}
use Rattle.flow.proofs.TableLaws.{some_of_lem, none_below}
use Rattle.flow.proofs.Bools.{by, choice, chosen_l, chosen_r}
use Rattle.rules.specs.Judging.{first_from, FirstOf, found}

module _ (k : ℕ) (f : ℕ → Bool) where
  pub first_end : first_from 0 k f ≡ k
  unfolding first_from
  first_end = refl

  pub first_hit : (n : ℕ) → f k ≡ true → first_from (suc n) k f ≡ k
  unfolding first_from
  first_hit n e = chosen_l (f k) k _ e

  pub first_miss : (n : ℕ) → f k ≡ false → first_from (suc n) k f ≡ first_from n (suc k) f
  unfolding first_from
  first_miss n e = chosen_r (f k) k _ e

pub first_le : (n k : ℕ) (f : ℕ → Bool) → first_from n k f ≤ k + n
unfolding first_from
first_le zero k f = omega arith
first_le (suc n) k f =
    choice (λ x. x ≤ k + suc n) (f k) k (first_from n (suc k) f) (λ e. omega arith)
    (λ e. let h : first_from n (suc k) f ≤ suc k + n = first_le n (suc k) f in omega arith)

-- a test that holds of none of the numbers
pub first_none : (n k : ℕ) (f : ℕ → Bool) → ((j : ℕ) → k ≤ j → j < k + n → f j ≡ false) → first_from n k f ≡ k + n
first_none zero k f h = first_end k f ∙ omega arith
first_none (suc n) k f h = first_miss k f n (h k (omega arith) (omega arith)) ∙ first_none n (suc k) f (λ j l m. h j (omega arith) (omega arith)) ∙ omega arith

-- and of number i first
first_at : (n k i : ℕ) (f : ℕ → Bool) → k ≤ i → i < k + n → f i ≡ true → ((j : ℕ) → k ≤ j → j < i → f j ≡ false) → first_from n k f ≡ i
first_at zero k i f l m e h = absurd (omega arith)
first_at (suc n) k i f l m e h = go (ℕ_discrete k i) (λ d. first_at n (suc k) i f (omega (arith, d)) (omega arith) e (λ j a b. h j (omega arith) b))
  where
    go : Dec (k ≡ i) → ((k ≡ i → ⊥) → first_from n (suc k) f ≡ i) → first_from (suc n) k f ≡ i
    go (yes d) w = first_hit k f n (ap f d ∙ e) ∙ d
    go (no d) w = first_miss k f n (h k (omega arith) (omega (arith, d))) ∙ w d

onward : (f : ℕ → Bool) (k : ℕ) → ((j : ℕ) → j < k → f j ≡ false) → (n : ℕ) → ((j : ℕ) → k ≤ j → j < n → f j ≡ false) → (j : ℕ) → 0 ≤ j → j < n → f j ≡ false
onward f k w n h j l m = by (ltb j k) (λ e. w j (ltb-true j k e)) (λ e. h j (ltb-false j k e) m)

-- ---- the first of the numbers below n
module _ (f : ℕ → Bool) (n : ℕ) where
  pub first_is : (r : Option ℕ) → FirstOf f 0 n r → unwrap_or r n ≡ first_from n 0 f
  first_is None h = sym (first_none n 0 f (λ j l m. h j l (omega arith)) ∙ omega arith)
  first_is (Some i) h = sym (first_at n 0 i f h.0 (omega (arith, h.1)) h.2 h.3)

  pub first_below : (r : Option ℕ) → FirstOf f 0 n r → IfSome r (λ k. k < n)
  first_below None h = tt
  first_below (Some i) h = h.1

  -- where it holds of none below k, the first from k on is the first of all
  pub first_onward : (k : ℕ) → ((j : ℕ) → j < k → f j ≡ false) → (r : Option ℕ) → FirstOf f k n r → FirstOf f 0 n r
  first_onward k w None h = λ j l m. onward f k w n h j l m
  first_onward k w (Some i) h = (omega arith, h.1, h.2, onward f k w i h.3)

-- ---- some number below n, as a walk through them finds it
number_at : (n i : ℕ) → i < n → get_or (range_with_len 0 n) i 0 ≡ i
number_at n i l = get_or-range_with_len 0 n i 0 l ∙ omega arith

pub any_below : (f : ℕ → Bool) (n : ℕ) (r : Bool)
    → MatchBool r ((k : ℕ) × (k < length (range_with_len 0 n)) × HoldsAt (λ c. f c ≡ true) (range_with_len 0 n) k) (AllWithin (λ c. f c ≡ false) (range_with_len 0 n) 0 (length (range_with_len 0 n)))
    → r ≡ some_below n f
any_below f n true h =
    let l : h.0 < n = omega (arith, h.1, length-range_with_len 0 n) in sym (some_of_lem n f h.0 l (sym (ap f (number_at n h.0 l)) ∙ h.2 0))
any_below f n false h =
    sym (none_below n f (λ i l. sym (ap f (number_at n i l)) ∙ h i 0 (omega arith) (omega (arith, length-range_with_len 0 n))))

-- ---- the rule found
module _ (n : ℕ) (rule : ℕ → Rule) (m : ℕ) where
  pub found_none : m ≡ n → found n rule m ≡ none
  unfolding found
  found_none e = chosen_l (eqb m n) none _ (eq-eqb m n e)

  pub found_some : (m ≡ n → ⊥) → found n rule m ≡ some (record { number = m; rule = rule m })
  unfolding found
  found_some e = chosen_r (eqb m n) none _ (ne_eqb m n e)

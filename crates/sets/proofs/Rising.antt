-- Laws of the rising list of a set's members.
use Prim.Native.Nat.{ℕ, zero, suc, ◌+◌, ◌^◌, ◌≤◌, ◌<◌, zero-le}
use native.Mathlib.Omega.{arith}
use native.Mathlib.Decide.{ℕ_discrete}
use mathlib.Core.Path.{◌≡◌, refl, sym, ap, ◌∙◌}
use mathlib.Core.Bool.{Bool, true, false, not, ◌&&◌, and_comm}
use mathlib.Core.List.{[], ◌∷◌}
use lib.Dec.{eqb}
use lib.ListN.{length}
use lib.Count.{ones}
use borrow.Author.Tests.{eq-eqb, ne_eqb}
use Rattle.sets.specs.Sets.{has, bit, those_from, those, rising_from, rising, members, without, count, lowest}
use Rattle.sets.proofs.Members.{those_has, those_lt, without_has, none_has, has_lt, set_ext, ones_more, lowest_least, count_le}

-- k stands at the front where f holds of it, and is passed over where it does not
pub rising_taken : (n k : ℕ) (f : ℕ → Bool) → f k ≡ true → rising_from (suc n) k f ≡ k ∷ rising_from n (suc k) f
unfolding rising_from
rising_taken n k f e = rw e

pub rising_passed : (n k : ℕ) (f : ℕ → Bool) → f k ≡ false → rising_from (suc n) k f ≡ rising_from n (suc k) f
unfolding rising_from
rising_passed n k f e = rw e

same_rising : (n k : ℕ) (f g : ℕ → Bool) → ((j : ℕ) → k ≤ j → j < k + n → f j ≡ g j) → rising_from n k f ≡ rising_from n k g
unfolding rising_from
same_rising zero k f g e = refl
same_rising (suc n) k f g e = rw (e k (omega arith) (omega arith), same_rising n (suc k) f g (λ j h l. e j (omega arith) (omega arith)))

-- c is the least number that f holds of
module _ (f : ℕ → Bool) (c : ℕ) (holds : f c ≡ true) (least : (j : ℕ) → j < c → f j ≡ false) where
  abbrev others : ℕ → Bool
  others j = f j && not (eqb j c)

  front : (n k : ℕ) → k ≤ c → c < k + n → rising_from n k f ≡ c ∷ rising_from n k others
  front zero k h l = absurd (omega arith)
  front (suc n) k h l = go (λ a. front n (suc k) a (omega arith)) (ℕ_discrete k c)
    where
      go : (suc k ≤ c → rising_from n (suc k) f ≡ c ∷ rising_from n (suc k) others) → Dec (k ≡ c) → rising_from (suc n) k f ≡ c ∷ rising_from (suc n) k others
      go later (yes e) =
          rw e (rising_taken n c f holds ∙ ap (λ l. c ∷ l) (same_rising n (suc c) f others (λ j a b. rw (ne_eqb j c (λ e. omega arith)) (and_comm true (f j)))
          ∙ sym (rising_passed n c others (rw (holds, eq-eqb c c refl)))))
      go later (no d) =
          let below : f k ≡ false = least k (omega arith) in
          rising_passed n k f below ∙ later (omega arith) ∙ ap (λ l. c ∷ l) (sym (rising_passed n k others (rw below)))

none : (n k : ℕ) → rising_from n k (has 0) ≡ []
unfolding rising_from
none zero k = refl
none (suc n) k = rising_passed n k (has 0) (none_has k) ∙ none n (suc k)

pub members_none : members 0 ≡ []
unfolding members rising
members_none = none 64 0

-- the lowest member stands first, then the others
pub members_next : (x c : ℕ) → x < 2 ^ 64 → has x c ≡ true → c ≡ lowest x → members x ≡ c ∷ members (without x c)
unfolding members rising
members_next x c h m is =
    front (has x) c m (λ j l. lower (has x j) (λ e. omega (arith, lowest_least x j e))) 64 0 zero-le (has_lt x c h m)
    ∙ ap (λ l. c ∷ l) (same_rising 64 0 (λ j. has x j && not (eqb j c)) (has (without x c)) (λ j a b. sym (without_has x c j (omega arith))))
  where
    lower : (b : Bool) → (b ≡ true → ⊥) → b ≡ false
    lower true n = absurd (n refl)
    lower false n = refl

pub members_those : (f : ℕ → Bool) → members (those f) ≡ rising f
unfolding members rising
members_those f = same_rising 64 0 (has (those f)) f (λ j h l. those_has f j (omega arith))

-- as many as the set has
long : (n k : ℕ) (f : ℕ → Bool) → length (rising_from n k f) ≡ ones (those_from n k f)
unfolding rising_from those_from bit ones
long zero k f = refl
long (suc n) k f = go (long n (suc k) f) (f k) refl ∙ sym (ones_more n k f)
  where
    go : length (rising_from n (suc k) f) ≡ ones (those_from n (suc k) f) → (b : Bool) → f k ≡ b
        → length (rising_from (suc n) k f) ≡ bit (f k) + ones (those_from n (suc k) f)
    go later true e = rw (rising_taken n k f e, e) (omega (arith, later))
    go later false e = rw (rising_passed n k f e, e) (omega (arith, later))

pub members_count : (x : ℕ) → x < 2 ^ 64 → length (members x) ≡ count x
unfolding members rising count those
members_count x h = long 64 0 (has x) ∙ ap ones (sym (set_ext x (those (has x)) h (those_lt (has x)) (λ i l. sym (those_has (has x) i l))))

pub members_le : (x : ℕ) → x < 2 ^ 64 → length (members x) ≤ 64
members_le x h = rw (members_count x h) (count_le x h)

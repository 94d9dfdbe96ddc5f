-- The query for the holders: its list is the one that rises, what it answers, and what it leaves in the slice.
use Prim.Native.Nat.{ℕ, zero, suc, ◌+◌, ◌≤◌, ◌<◌, zero-le}
use native.Mathlib.Omega.{arith}
use native.Mathlib.Decide.{ℕ_discrete}
use mathlib.Core.Path.{◌≡◌, refl, sym, ap, ap₂, ◌∙◌}
use mathlib.Core.Bool.{Bool, true, false, ◌&&◌, true≢false}
use mathlib.Core.List.{List, [], ◌∷◌}
use mathlib.Core.Option.{Option, none, some}
use lib.Dec.{ltb}
use lib.ListN.{length, drop}
use lib.Seq.{length-take-le, length_front, take-append_seam, drop-append_seam}
use borrow.Author.Tests.{lt-ltb, le-ltb, ltb-true, ltb-false, lt-leb, le-leb}
use Rattle.sets.specs.Sets.{rising_from, rising}
use Rattle.sets.proofs.Rising.{rising_taken, rising_passed}
use Rattle.flow.specs.Lists.{is_in, ◌⇒◌, first_that}
use Rattle.flow.specs.Box.{State, holds}
use Rattle.flow.specs.Queries.{holders, holders_refusal, reply_by, holders_query, slice_by, holders_slice}
use Rattle.flow.specs.Consequences.{Rises, HoldersInOrder, HoldersAnswered, Leaves, SliceAnswered}
use Rattle.flow.proofs.Bools.{and_l, and_r, and_i, by, same}
use Rattle.flow.proofs.TableLaws.{in_front, in_rest, in_cases, AllNone, all_none, untrue}

-- ---- two rising lists of the same numbers are the same
abbrev Alike : List ℕ → List ℕ → Type 0
Alike l m = (c : ℕ) → is_in c l ≡ true → is_in c m ≡ true

-- the first numbers of both are the same, and then the rests are alike
same_first : (x y : ℕ) (l m : List ℕ) → Rises (x ∷ l) → Rises (y ∷ m) → Alike (x ∷ l) (y ∷ m) → Alike (y ∷ m) (x ∷ l) → x ≡ y
unfolding Rises
same_first x y l m r q a b =
    in_cases x y m (λ e. e) (λ h. in_cases y x l (λ e. sym e) (λ k. absurd (omega (arith, r.0 y k, q.0 x h))) (b y (in_front y m))) (a x (in_front x l))

rest_alike : (x y : ℕ) (l m : List ℕ) → x ≡ y → Rises (x ∷ l) → Alike (x ∷ l) (y ∷ m) → Alike l m
unfolding Rises
rest_alike x y l m e r a c h = in_cases c y m (λ d. absurd (omega (arith, r.0 c h, d, e))) (λ k. k) (a c (in_rest c x l h))

one_rising : (l m : List ℕ) → Rises l → Rises m → Alike l m → Alike m l → l ≡ m
unfolding Rises is_in
one_rising [] [] r q a b = refl
one_rising [] (y ∷ m) r q a b = absurd (true≢false (sym (b y (in_front y m))))
one_rising (x ∷ l) [] r q a b = absurd (true≢false (sym (a x (in_front x l))))
one_rising (x ∷ l) (y ∷ m) r q a b =
    let e : x ≡ y = same_first x y l m r q a b in
    ap₂ ◌∷◌ e (one_rising l m r.1 q.1 (rest_alike x y l m e r a) (rest_alike y x m l (sym e) q b))

-- ---- the list of those from k on that f holds of
module _ (f : ℕ → Bool) where
  -- c is one of the n numbers from k on, and f holds of it
  record Found (n k c : ℕ) : Type 0 where
    from : k ≤ c
    to : c < k + n
    is : f c ≡ true

  found : (n k c : ℕ) → is_in c (rising_from n k f) ≡ true → Found n k c
  unfolding is_in rising_from
  found zero k c h = absurd (true≢false (sym h))
  found (suc n) k c h =
      by (f k)
      (λ e. in_cases c k (rising_from n (suc k) f) (λ d. record { from = omega arith; to = omega arith; is = rw d e }) (λ m. further (found n (suc k) c m))
      (sym (ap (is_in c) (rising_taken n k f e)) ∙ h))
      (λ e. further (found n (suc k) c (sym (ap (is_in c) (rising_passed n k f e)) ∙ h)))
    where
      further : Found n (suc k) c → Found (suc n) k c
      further w = record { from = omega (arith, w.from); to = omega (arith, w.to); is = w.is }

  stands : (n k c : ℕ) → Found n k c → is_in c (rising_from n k f) ≡ true
  stands zero k c w = absurd (omega (arith, w.from, w.to))
  stands (suc n) k c w = go (λ d. stands n (suc k) c d) (ℕ_discrete c k)
    where
      go : (Found n (suc k) c → is_in c (rising_from n (suc k) f) ≡ true) → Dec (c ≡ k) → is_in c (rising_from (suc n) k f) ≡ true
      go later (yes e) = rw (e, rising_taken n k f (rw e at w.is)) (in_front k (rising_from n (suc k) f))
      go later (no d) =
          let m = later (record { from = omega (arith, w.from, d); to = omega (arith, w.to); is = w.is }) in
          by (f k) (λ e. rw (rising_taken n k f e) (in_rest c k (rising_from n (suc k) f) m)) (λ e. rw (rising_passed n k f e) m)

  rises : (n k : ℕ) → Rises (rising_from n k f)
  unfolding Rises rising_from
  rises zero k = tt
  rises (suc n) k = go (f k) refl (rises n (suc k))
    where
      go : (b : Bool) → f k ≡ b → Rises (rising_from n (suc k) f) → Rises (rising_from (suc n) k f)
      go true e r = rw (rising_taken n k f e) ((λ y h. (found n (suc k) y h).from), r)
      go false e r = rw (rising_passed n k f e) r

-- ---- the holders of item i
listed : (s : State) (i c : ℕ) → is_in c (holders s i) ≡ (ltb c 64 && holds s c i)
unfolding holders rising
listed s i c =
    same (is_in c (holders s i)) (ltb c 64 && holds s c i)
    (λ h. let w = found (λ c. holds s c i) 64 0 c h in and_i (ltb c 64) (holds s c i) (lt-ltb c 64 (omega (arith, w.to))) w.is)
    (λ h.
    stands (λ c. holds s c i) 64 0 c
    (record { from = zero-le; to = omega (arith, ltb-true c 64 (and_l (ltb c 64) (holds s c i) h)); is = and_r (ltb c 64) (holds s c i) h }))

holders_rise : (s : State) (i : ℕ) → Rises (holders s i)
unfolding holders rising
holders_rise s i = rises (λ c. holds s c i) 64 0

pub holders_in_order : HoldersInOrder
unfolding HoldersInOrder
holders_in_order s i l = (
  (λ e. rw e (holders_rise s i, listed s i)),
  (λ p. one_rising l (holders s i) p.0 (holders_rise s i) (λ c h. listed s i c ∙ sym (p.1 c) ∙ h) (λ c h. p.1 c ∙ sym (listed s i c) ∙ h)),
)

-- ---- the answer
module _ (s : State) (i n : ℕ) where
  pub refusal_range : 64 ≤ i → holders_refusal s i n ≡ some 5
  unfolding holders_refusal first_that ◌⇒◌
  refusal_range h = rw (le-leb 64 i h)

  pub refusal_short : i < 64 → n < length (holders s i) → holders_refusal s i n ≡ some 13
  unfolding holders_refusal first_that ◌⇒◌
  refusal_short h k = rw (lt-leb 64 i h, lt-ltb n (length (holders s i)) k)

  pub refusal_none : i < 64 → length (holders s i) ≤ n → holders_refusal s i n ≡ none
  unfolding holders_refusal first_that ◌⇒◌
  refusal_none h k = rw (lt-leb 64 i h, le-ltb n (length (holders s i)) k)

pub holders_answered : HoldersAnswered
unfolding HoldersAnswered holders_query reply_by
holders_answered s i n = ((λ h. rw (refusal_range s i n h)), (λ h k. rw (refusal_short s i n h k)), (λ h k. rw (refusal_none s i n h k)))

-- ---- the slice
room : (s : State) (i n : ℕ) → holders_refusal s i n ≡ none → length (holders s i) ≤ n
unfolding holders_refusal AllNone
room s i n e = ltb-false n (length (holders s i)) (untrue _ 13 (all_none _ e).1.0)

pub slice-answered : SliceAnswered
unfolding SliceAnswered Leaves holders_query holders_slice reply_by slice_by
slice-answered s i before = by_refusal (holders_refusal s i (length before)) (room s i (length before))
  where
    l : List ℕ
    l = holders s i

    by_refusal : (o : Option ℕ) → (o ≡ none → length l ≤ length before)
        → (length (slice_by s i o before) ≡ length before) × Leaves (reply_by s i o) l before (slice_by s i o before)
    by_refusal (some k) fits = (refl, refl)
    by_refusal none fits = (
      length_front before l (length l) (sym (length-take-le (length l) before (fits refl))),
      (take-append_seam l (drop (length l) before), drop-append_seam l (drop (length l) before)),
    )

-- For the queries: the set of the holders, built container by container; a slice into which the members of a set go, the lowest first; the answers.
use Prim.Native.Nat.{ℕ, zero, suc, ◌+◌, ◌%◌, ◌^◌, ◌≤◌, ◌<◌, zero-le}
use native.Mathlib.Omega.{arith}
use native.Mathlib.Numerals.{add-one}
use native.Mathlib.Decide.{ℕ_discrete}
use mathlib.Core.Path.{◌≡◌, refl, sym, ap, ap₂, ◌∙◌}
use mathlib.Core.Bool.{true, false, ◌&&◌, ◌||◌, and-true, and-false, or-false}
use mathlib.Core.List.{List, [], ◌++◌, append-nil}
use lib.Dec.{eqb, ltb}
use lib.ListN.{length, take, drop, get_or, set, length-set, take-append-drop}
use lib.Seq.{append_snoc, take-suc-set, drop-set-lt, drop-drop}
use borrow.Author.Tests.{eq-eqb, ne_eqb, lt-ltb, le-ltb, ltb-true, ltb-false}
use Rattle.std.specs.Prelude.{Ok, Err, Some}
use Rattle.sets.specs.Sets.{has, only, ◌∪◌, those, members, without, count}
use Rattle.sets.specs.Members.{TakesLowest}
use Rattle.sets.proofs.Members.{those_has, those_lt, without_lt, none_has, only_has, only_lt, union_has, union_lt, set_ext, count_le, count_less, count_none, member}
use Rattle.sets.proofs.Rising.{members_none, members_next, members_those, members_count}
use Rattle.flow.specs.Box.{State, items_of, holds}
use Rattle.flow.specs.Queries.{holders, reply_by, holders_query, slice_by, holders_slice}
use Rattle.flow.proofs.Bools.{by, chosen_l, chosen_r}
use Rattle.flow.proofs.Holders.{refusal_range, refusal_short, refusal_none}
use Rattle.terms.specs.declared.refusal.Refusal.TheVariants.{OutOfRange, SliceShort}
use Rattle.tracker.specs.Replies.{reply_of, AnswersHolders, with_holder}

-- ---- the set of the holders
-- of the first n containers, those that hold item i
pub found_to : List ℕ → ℕ → ℕ → ℕ
found_to items i zero = 0
found_to items i (suc n) = with_holder (found_to items i n) (get_or items n 0) i n

pub found_none : (items : List ℕ) (i : ℕ) → found_to items i 0 ≡ 0
unfolding found_to
found_none items i = refl

found_more : (items : List ℕ) (i n : ℕ) → found_to items i (n + 1) ≡ with_holder (found_to items i n) (get_or items n 0) i n
unfolding found_to
found_more items i n = rw add-one

pub found_next : (items : List ℕ) (i n x r : ℕ) → n < 64 → x ≡ found_to items i n → r ≡ with_holder x (get_or items n 0) i (n % 64) → r ≡ found_to items i (n + 1)
found_next items i n x r h e f =
    let same : n % 64 ≡ n = omega arith in
    rw (same, e) at f ∙ sym (found_more items i n)

-- a turn of the loop
pub took : (x m i c : ℕ) → has m i ≡ true → with_holder x m i c ≡ x ∪ only c
unfolding with_holder
took x m i c e = chosen_l (has m i) (x ∪ only c) x e

pub passed : (x m i c : ℕ) → has m i ≡ false → with_holder x m i c ≡ x
unfolding with_holder
passed x m i c e = chosen_r (has m i) (x ∪ only c) x e

turn_has : (x m i c j : ℕ) → has (with_holder x m i c) j ≡ (has x j || (has m i && eqb c j))
turn_has x m i c j =
    by (has m i) (λ e. rw (took x m i c e, union_has x (only c) j, only_has c j, e)) (λ e. rw (passed x m i c e, e) (sym (or-false (has x j))))

turn_lt : (x m i c : ℕ) → x < 2 ^ 64 → c < 64 → with_holder x m i c < 2 ^ 64
turn_lt x m i c h l =
    by (has m i) (λ e. rw (took x m i c e) (union_lt x (only c) h (only_lt c l))) (λ e. rw (passed x m i c e) h)

found_lt : (items : List ℕ) (i n : ℕ) → n ≤ 64 → found_to items i n < 2 ^ 64
unfolding found_to
found_lt items i zero h = omega arith
found_lt items i (suc n) h = turn_lt (found_to items i n) (get_or items n 0) i n (found_lt items i n (omega arith)) (omega arith)

found_has : (items : List ℕ) (i n j : ℕ) → has (found_to items i n) j ≡ (ltb j n && has (get_or items j 0) i)
unfolding found_to
found_has items i zero j = rw (le-ltb j 0 zero-le) (none_has j)
found_has items i (suc n) j =
    turn_has (found_to items i n) (get_or items n 0) i n j ∙ rw (found_has items i n j) (go (ℕ_discrete n j))
  where
    below : (n ≡ j → ⊥) → ltb j (suc n) ≡ ltb j n
    below d =
        by (ltb j n) (λ e. let h : j < n = ltb-true j n e in lt-ltb j (suc n) (omega arith) ∙ sym e)
        (λ e. let h : n ≤ j = ltb-false j n e in le-ltb j (suc n) (omega arith) ∙ sym e)

    go : Dec (n ≡ j) → ((ltb j n && has (get_or items j 0) i) || (has (get_or items n 0) i && eqb n j)) ≡ (ltb j (suc n) && has (get_or items j 0) i)
    go (yes e) = rw (← e, le-ltb n n (omega arith), lt-ltb n (suc n) (omega arith), eq-eqb n n refl) (and-true (has (get_or items n 0) i))
    go (no d) = rw (ne_eqb n j d, below d, and-false) (or-false (ltb j n && has (get_or items j 0) i))

pub found_all : (s : State) (i : ℕ) → found_to s.items i 64 ≡ those (λ c. holds s c i)
unfolding holds items_of
found_all s i =
    set_ext (found_to s.items i 64) (those (λ c. has (get_or s.items c 0) i)) (found_lt s.items i 64 (omega arith)) (those_lt (λ c. has (get_or s.items c 0) i))
    (λ j h. found_has s.items i 64 j ∙ rw (lt-ltb j 64 h) (sym (those_has (λ c. has (get_or s.items c 0) i) j h)))

-- ---- the slice, by the loop that fills it
-- the first n elements of `now` and then the members left, rising, are the members of x, rising; the elements from n on are as before
pub record Partly (x : ℕ) (before now : List ℕ) (left n : ℕ) : Type 0 where
  pub small : left < 2 ^ 64
  pub number : n + count left ≡ count x
  pub long : length now ≡ length before
  pub listed : take n now ++ members left ≡ members x
  pub rest : drop n now ≡ drop n before

pub partly_none : (x : ℕ) (l : List ℕ) → x < 2 ^ 64 → Partly x l l x 0
partly_none x l h = record { small = h; number = omega arith; long = refl; listed = refl; rest = refl }

-- what a turn needs, where c is the lowest member of those left, and what it ends with, where `later` is left then
pub record Turn (x : ℕ) (before now : List ℕ) (n c later : ℕ) : Type 0 where
  pub room : n < length now
  pub next : Partly x before (set now n c) later (n + 1)

module _ (x : ℕ) (before now : List ℕ) (left n : ℕ) (p : Partly x before now left n) where
  -- the iterator counts no further than a u64 does
  pub counted_on : x < 2 ^ 64 → n + count left < 2 ^ 64
  counted_on h = omega (arith, p.number, count_le x h)

  module _ (fits : count x ≤ length before) (c later : ℕ) (took : TakesLowest left (Some c) later) where
    there : has left c ≡ true
    there = member left p.small took.0 c took.1

    after : later ≡ without left c
    after = took.2 ∙ ap (without left) (sym took.1)

    one_less : count left ≡ count later + 1
    one_less = rw after (count_less left c p.small there)

    pub partly_more : Turn x before now n c later
    partly_more =
        let room : n < length now = omega (arith, one_less, p.number, p.long) in
        record {
          room = room;
          next =
              record {
                small = rw after (without_lt left c);
                number = omega (arith, one_less, p.number);
                long = length-set now n c ∙ p.long;
                listed =
                    rw (add-one, take-suc-set now n c room, append_snoc (take n now) c (members later), after, ← members_next left c p.small there took.1)
                    p.listed;
                rest = drop-set-lt (n + 1) now n c (omega arith) ∙ sym (drop-drop 1 n now) ∙ ap (drop 1) p.rest ∙ drop-drop 1 n before;
              };
        }

  module _ (over : left ≡ 0) where
    all_of : n ≡ count x
    all_of = omega (arith, ap count over, count_none)

    pub partly_all : now ≡ members x ++ drop (count x) before
    partly_all =
        sym (take-append-drop n now) ∙ ap₂ ◌++◌ (sym (append-nil (take n now)) ∙ whole) (p.rest ∙ ap (λ k. drop k before) all_of)
      where
        whole : take n now ++ [] ≡ members x
        whole = rw (over, members_none) at p.listed

-- ---- the answers, in any state
module _ (s : State) (i : ℕ) where
  module _ (before : List ℕ) where
    pub refused_range : 64 ≤ i → AnswersHolders s i before (Err OutOfRange) before
    unfolding reply_of holders_query reply_by holders_slice slice_by
    refused_range h = let e = refusal_range s i (length before) h in record { answer = rw e; slice = rw e refl }

    -- the set x is found and its n members are counted
    module _ (h : i < 64) (x n : ℕ) (found : x ≡ those (λ c. holds s c (i % 64))) (counted : n ≡ count x) where
      is_set : x ≡ those (λ c. holds s c i)
      is_set = let e : i % 64 ≡ i = omega arith in rw e at found

      is_list : members x ≡ holders s i
      unfolding holders
      is_list = rw is_set (members_those (λ c. holds s c i))

      is_length : n ≡ length (holders s i)
      is_length = counted ∙ sym (members_count x (rw is_set (those_lt (λ c. holds s c i)))) ∙ ap length is_list

      pub refused_short : length before < n → AnswersHolders s i before (Err SliceShort) before
      unfolding reply_of holders_query reply_by holders_slice slice_by
      refused_short l = let e = refusal_short s i (length before) h (omega (arith, is_length)) in record { answer = rw e; slice = rw e refl }

      pub holders_given : (now : List ℕ) → n ≤ length before → now ≡ members x ++ drop (count x) before → AnswersHolders s i before (Ok n) now
      unfolding reply_of holders_query reply_by holders_slice slice_by
      holders_given now l f =
          let e = refusal_none s i (length before) h (omega (arith, is_length)) in
          record { answer = rw (e, ← is_length); slice = rw (e, ← is_length, ← is_list, counted) f }

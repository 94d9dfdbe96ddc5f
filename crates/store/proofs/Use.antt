-- What stands in a table, by a flag in a byte, and links as sets.
use Prim.Native.Nat.{ℕ, zero, suc, ◌+◌, ◌^◌, ◌≤◌, ◌<◌}
use native.Mathlib.Omega.{arith}
use native.Mathlib.Numerals.{add-one}
use native.Mathlib.Decide.{dec_lt}
use mathlib.Core.Path.{◌≡◌, refl, sym, ap, ap₂, ◌∙◌}
use mathlib.Core.Bool.{Bool, true, false, ◌&&◌, ◌||◌, or_assoc, or_comm}
use mathlib.Core.List.{List, [], ◌∷◌}
use lib.Dec.{eqb}
use lib.ListN.{length, get_or, take, drop}
use lib.Seq.{take-length}
use Rattle.sets.specs.Sets.{has, ◌∪◌, ◌∩◌, union_of}
use Rattle.sets.proofs.Members.{union_has, inter_has, none_has, past_has, eqb_sym}
use Rattle.sets.proofs.Unions.{all_more, union_of_more}
use Rattle.flow.specs.Lists.{some_below, is_in}
use Rattle.flow.specs.Box.{Sort, to_read, both_ways, Tables, row_of, mapped_in, feeders_of, feeds}
use Rattle.flow.specs.Links.{mapped, is_fed}
use Rattle.flow.proofs.TableLaws.{none_of, none_below, some_more, some_same, is_in_cons}
use Rattle.flow.proofs.Bools.{or_false_i}
use Rattle.store.specs.Maps.{part, view, maps_in, ways_in, reads_at, boths_at, read_row, both_row, fed_up_to}
use Rattle.store.proofs.Parts.{part_at, part_length, part_most}
use Rattle.store.proofs.Counting.{row_lt, both_has, either_has}
use Rattle.store.proofs.Writes.{row_of_words, row_viewed}
pub use Rattle.flow.proofs.TableLaws.{is_in_cons}

-- ---- what stands in a table
pub is_in_more : (c : ℕ) (l : List ℕ) (i : ℕ) → i < length l → (is_in c (take i l) || eqb (get_or l i 0) c) ≡ is_in c (take (i + 1) l)
is_in_more c l i h = rw (all_more (is_in c) ◌||◌ (eqb c) (is_in_cons c) or_assoc or_comm l i h, eqb_sym c) refl

-- ---- links as sets
union_of_below : (n : ℕ) (rows : List ℕ) (c : ℕ) → n ≤ length rows → has (union_of (take n rows)) c ≡ some_below n (λ p. has (get_or rows p 0) c)
unfolding some_below union_of
union_of_below zero rows c h = none_has c
union_of_below (suc n) rows c h =
    ap (λ (k : ℕ). has (union_of (take k rows)) c) (sym (add-one n)) ∙ ap (λ (x : ℕ). has x c) (union_of_more rows n h)
    ∙ union_has (union_of (take n rows)) (get_or rows n 0) c ∙ or_comm (has (union_of (take n rows)) c) (has (get_or rows n 0) c)
    ∙ ap (λ (b : Bool). has (get_or rows n 0) c || b) (union_of_below n rows c (omega arith)) ∙ sym (some_more n (λ p. has (get_or rows p 0) c))

absorbed : (a b : Bool) → a ≡ (a || (a && b))
absorbed true b = refl
absorbed false b = refl

and_none : (a : Bool) {b : Bool} → b ≡ false → (a && b) ≡ false
and_none true e = e
and_none false e = refl

union_of_has : (n : ℕ) (rows : List ℕ) (c : ℕ) → length rows ≡ n → has (union_of rows) c ≡ some_below n (λ p. has (get_or rows p 0) c)
union_of_has n rows c h =
    ap (λ (l : List ℕ). has (union_of l) c) (sym (take-length rows) ∙ ap (λ (n : ℕ). take n rows) h) ∙ union_of_below n rows c (omega arith)

-- ---- the links of the words
module _ (w d n : List ℕ) (long : length w ≡ 353) where
  abbrev tables : Tables
  tables = (view w d n).tables

  -- by container: what a process feeds, and what it maps
  feeds_has : (c p : ℕ) → c < 64 → p < 16 → has (feeds tables p) c ≡ (has (maps_in w p) c && has (ways_in w p) c)
  unfolding feeds row_of_words
  feeds_has c p hc hp = ap (λ (l : List ℕ). has (mapped_in l) c) (row_viewed both_ways w d n p hp) ∙ both_has w p c hc

  feeders_has : (c p : ℕ) → c < 64 → p < 16 → has (feeders_of tables p) c ≡ has (maps_in w p) c
  unfolding feeders_of row_of_words
  feeders_has c p hc hp =
      union_has _ _ c ∙ ap₂ (λ (l k : List ℕ). has (mapped_in l) c || has (mapped_in k) c) (row_viewed to_read w d n p hp) (row_viewed both_ways w d n p hp) ∙ either_has w p c hc

  -- of a number above 63 no set has it
  row_past_has : (x : Sort) (c p : ℕ) → 64 ≤ c → p < 16 → has (mapped_in (row_of tables x p)) c ≡ false
  unfolding row_of_words read_row both_row
  row_past_has to_read c p h hp = past_has _ c (rw (row_viewed to_read w d n p hp) (row_lt (maps_in w p) (ways_in w p) w (reads_at p))) h
  row_past_has both_ways c p h hp = past_has _ c (rw (row_viewed both_ways w d n p hp) (row_lt (maps_in w p ∩ ways_in w p) 0 w (boths_at p))) h

  fed_past : (c p : ℕ) → 64 ≤ c → p < 16 → has (feeds tables p) c ≡ false
  unfolding feeds
  fed_past c p h hp = row_past_has both_ways c p h hp

  feeder_past : (c p : ℕ) → 64 ≤ c → p < 16 → has (feeders_of tables p) c ≡ false
  unfolding feeders_of
  feeder_past c p h hp = union_has _ _ c ∙ or_false_i _ _ (row_past_has to_read c p h hp) (row_past_has both_ways c p h hp)

  pub mapped_is : (c : ℕ) → union_of (part 65 16 w) < 2 ^ 64 → has (union_of (part 65 16 w)) c ≡ mapped tables c
  unfolding mapped maps_in
  mapped_is c b = go (dec_lt c 64)
    where
      own : c < 64 → (p : ℕ) → p < 16 → has (get_or (part 65 16 w) p 0) c ≡ (has (feeders_of tables p) c || has (feeds tables p) c)
      own h p hp =
          ap (λ (z : ℕ). has z c) (sym (part_at 65 16 w p hp)) ∙ absorbed (has (maps_in w p) c) (has (ways_in w p) c)
          ∙ sym (ap₂ ◌||◌ (feeders_has c p h hp) (feeds_has c p h hp))

      go : Dec (c < 64) → has (union_of (part 65 16 w)) c ≡ mapped tables c
      go (yes h) = union_of_has 16 (part 65 16 w) c (part_length 65 16 w (omega arith)) ∙ some_same 16 (own h)
      go (no h) = past_has _ c b (omega arith) ∙ sym (none_below 16 _ (λ p hp. or_false_i _ _ (feeder_past c p (omega arith) hp) (fed_past c p (omega arith) hp)))

  -- what some of the first processes map both ways
  up_to : (k c : ℕ) → c < 64 → k ≤ 16 → has (fed_up_to w k) c ≡ some_below k (λ p. has (feeds tables p) c)
  unfolding fed_up_to some_below
  up_to zero c h l = none_has c
  up_to (suc k) c h l =
      union_has (fed_up_to w k) _ c ∙ ap₂ ◌||◌ (up_to k c h (omega arith)) (inter_has (maps_in w k) (ways_in w k) c ∙ sym (feeds_has c k h (omega arith)))
      ∙ or_comm (some_below k (λ p. has (feeds tables p) c)) (has (feeds tables k) c) ∙ sym (some_more k (λ p. has (feeds tables p) c))

  pub fed_is : (c : ℕ) → fed_up_to w 16 < 2 ^ 64 → has (fed_up_to w 16) c ≡ is_fed tables c
  unfolding is_fed
  fed_is c b = go (dec_lt c 64)
    where
      go : Dec (c < 64) → has (fed_up_to w 16) c ≡ is_fed tables c
      go (yes h) = up_to 16 c h (omega arith)
      go (no h) = past_has _ c b (omega arith) ∙ sym (none_below 16 _ (λ p hp. fed_past c p (omega arith) hp))

  -- what none may map both ways is not fed
  pub unfed : (c : ℕ) → has (union_of (part 81 16 w)) c ≡ false → is_fed tables c ≡ false
  unfolding is_fed ways_in
  unfed c e = none_below 16 _ (λ p hp. one p hp (dec_lt c 64))
    where
      one : (p : ℕ) → p < 16 → Dec (c < 64) → has (feeds tables p) c ≡ false
      one p hp (yes h) =
          feeds_has c p h hp
          ∙ and_none (has (maps_in w p) c) (ap (λ (z : ℕ). has z c) (part_at 81 16 w p hp) ∙ none_of 16 (λ q. has (get_or (part 81 16 w) q 0) c) p (sym (union_of_has 16 (part 81 16 w) c (part_length 81 16 w (omega arith))) ∙ e) hp)
      one p hp (no h) = fed_past c p (omega arith) hp

-- ---- the first element of what is left of a list
drop_first : (l : List ℕ) (n x : ℕ) (r : List ℕ) → drop n l ≡ x ∷ r → (x ≡ get_or l n 0) × (r ≡ drop (n + 1) l) × (n < length l)
drop_first l n x r e = rw (add-one n) (go l n e)
  where
    go : (l : List ℕ) (n : ℕ) → drop n l ≡ x ∷ r → (x ≡ get_or l n 0) × (r ≡ drop (suc n) l) × (n < length l)
    go [] zero e = cc
    go [] (suc n) e = cc
    go (y ∷ l) zero e = (sym (ap (λ (k : List ℕ). get_or k 0 0) e), sym (ap (drop 1) e), omega arith)
    go (y ∷ l) (suc n) e = let i = go l n e in (i.0, i.1, omega (arith, i.2))

-- the sets of process n, of those that are left of each, joined
pub fed_more : (w : List ℕ) (n x y fed : ℕ) (k l : List ℕ) → fed ≡ fed_up_to w n → drop n (part 65 16 w) ≡ x ∷ k → drop n (part 81 16 w) ≡ y ∷ l
    → ((fed ∪ (x ∩ y)) ≡ fed_up_to w (n + 1)) × (k ≡ drop (n + 1) (part 65 16 w)) × (l ≡ drop (n + 1) (part 81 16 w))
unfolding fed_up_to maps_in ways_in
fed_more w n x y fed k l f e g =
    let a = drop_first (part 65 16 w) n x k e in
    let b = drop_first (part 81 16 w) n y l g in
    let h : n < 16 = omega (arith, a.2, part_most 65 16 w) in
    (rw (add-one n, f, a.0 ∙ sym (part_at 65 16 w n h), b.0 ∙ sym (part_at 81 16 w n h)) refl, a.1, b.1)

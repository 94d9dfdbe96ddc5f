-- Mappings in the words: a row of counts by its sets and its bytes.
use Prim.Native.Nat.{ℕ, ◌+◌, ◌/◌, ◌%◌, ◌^◌, ◌≤◌, ◌<◌, max}
use native.Mathlib.Omega.{arith}
use native.Mathlib.Decide.{ℕ_discrete}
use mathlib.Core.Path.{◌≡◌, refl, sym, ap, ap₂, ◌∙◌}
use mathlib.Core.Bool.{Bool, true, false, ◌&&◌, ◌||◌, or-true}
use mathlib.Core.List.{List}
use lib.Dec.{ltb, eqb}
use lib.ListN.{length, get_or, set, length-set}
use lib.Seq.{get_or-set_same, get_or-set_other, ext_get_or}
use borrow.Author.Tests.{lt-ltb, ltb-false, eq-eqb, ne_eqb}
use Rattle.sets.specs.Sets.{has, ◌∪◌, ◌∩◌}
use Rattle.sets.proofs.Members.{union_has, inter_has, inter_lt, none_has, set_ext, union_lt}
use Rattle.flow.specs.Box.{no_mappings, mapped_in}
use Rattle.flow.proofs.Bools.{chosen_l, chosen_r}
use Rattle.flow.proofs.TableLaws.{table_at, table_length}
use Rattle.flow.proofs.Counts.{mapped_has, mapped_lt, none_counted, none_length}
use Rattle.store.specs.Maps.{byte_of, count_by, row_in, maps_in, ways_in, reads_at, boths_at, read_row, both_row}

-- ---- a count above 0
pub not_above : (n : ℕ) → ltb 0 n ≡ false → n ≡ 0
not_above n h = let l : n ≤ 0 = ltb-false 0 n h in omega arith

-- where a count cannot be 0 it is at least 1, and the byte where that is
pub least_zero : (b : ℕ) → b ≡ 0 → count_by true false b ≡ 1
unfolding count_by
least_zero b e = chosen_l (eqb b 0) 1 b (eq-eqb b 0 e)

pub least_more : (b : ℕ) → (b ≡ 0 → ⊥) → count_by true false b ≡ b
unfolding count_by
least_more b e = chosen_r (eqb b 0) 1 b (ne_eqb b 0 e)

pub least_max : (b : ℕ) → max b 1 ≡ count_by true false b
least_max b = go (ℕ_discrete b 0)
  where
    go : Dec (b ≡ 0) → max b 1 ≡ count_by true false b
    go (yes e) = rw (least_zero b e) (omega arith)
    go (no e) = rw (least_more b e) (omega arith)

pub least_above : (b : ℕ) → 0 < count_by true false b
least_above b = go (ℕ_discrete b 0)
  where
    go : Dec (b ≡ 0) → 0 < count_by true false b
    go (yes e) = rw (least_zero b e) (omega arith)
    go (no e) = rw (least_more b e) (omega (arith, e))

least_has : (b : Bool) (n : ℕ) → ltb 0 (count_by b false n) ≡ b
unfolding count_by
least_has true n = lt-ltb 0 (count_by true false n) (least_above n)
least_has false n = refl

one_has : (a b : Bool) (n : ℕ) → (ltb 0 (count_by a b n) || (a && b)) ≡ a
unfolding count_by
one_has true true n = or-true (ltb 0 n)
one_has true false n = ap (λ (z : Bool). z || false) (lt-ltb 0 (count_by true false n) (least_above n))
one_has false b n = refl

-- ---- a row
module _ (x y : ℕ) (w : List ℕ) (at : ℕ) where
  pub row_length : length (row_in x y w at) ≡ 64
  unfolding row_in
  row_length = table_length 64 _

  pub row_at : (c : ℕ) → c < 64 → get_or (row_in x y w at) c 0 ≡ count_by (has x c) (has y c) (byte_of (get_or w (at + c / 8) 0) (c % 8))
  unfolding row_in
  row_at c h = table_at 64 _ c 0 h

  pub row_lt : mapped_in (row_in x y w at) < 2 ^ 64
  row_lt = rw row_length at (mapped_lt (row_in x y w at))

  pub row_has : (c : ℕ) → c < 64 → has (mapped_in (row_in x y w at)) c ≡ ltb 0 (count_by (has x c) (has y c) (byte_of (get_or w (at + c / 8) 0) (c % 8)))
  row_has c h = mapped_has (row_in x y w at) c ∙ ap (ltb 0) (row_at c h)

-- equal rows, count by count
pub row_is : (x y : ℕ) (w : List ℕ) (at : ℕ) (l : List ℕ) → length l ≡ 64
    → ((c : ℕ) → c < 64 → count_by (has x c) (has y c) (byte_of (get_or w (at + c / 8) 0) (c % 8)) ≡ get_or l c 0) → row_in x y w at ≡ l
row_is x y w at l e h =
    ext_get_or 0 (row_in x y w at) l (row_length x y w at ∙ sym e)
    (λ c b. let m : length (row_in x y w at) ≡ 64 = row_length x y w at in let k : c < 64 = omega arith in row_at x y w at c k ∙ h c k)

pub row_none : (y : ℕ) (w : List ℕ) (at : ℕ) → row_in 0 y w at ≡ no_mappings
unfolding count_by
row_none y w at = row_is 0 y w at no_mappings none_length (λ c h. rw (none_has c) (sym (none_counted c)))

-- a row goes by its sets and its eight words
pub row_words : (x y : ℕ) (w w' : List ℕ) (at at' : ℕ) → ((i : ℕ) → i < 8 → get_or w' (at' + i) 0 ≡ get_or w (at + i) 0) → row_in x y w' at' ≡ row_in x y w at
row_words x y w w' at at' f =
    row_is x y w' at' (row_in x y w at) (row_length x y w at)
    (λ c h. ap (λ (z : ℕ). count_by (has x c) (has y c) (byte_of z (c % 8))) (f (c / 8) (omega arith)) ∙ sym (row_at x y w at c h))

-- one count of it changed: sets and bytes say of every other container what they did
pub row_changed : (x y x' y' : ℕ) (w w' : List ℕ) (at c : ℕ) → c < 64 → ((d : ℕ) → d < 64 → (d ≡ c → ⊥) → has x' d ≡ has x d) → ((d : ℕ) → d < 64 → (d ≡ c → ⊥) → has y' d ≡ has y d)
    → ((d : ℕ) → d < 64 → (d ≡ c → ⊥) → byte_of (get_or w' (at + d / 8) 0) (d % 8) ≡ byte_of (get_or w (at + d / 8) 0) (d % 8))
    → row_in x' y' w' at ≡ set (row_in x y w at) c (count_by (has x' c) (has y' c) (byte_of (get_or w' (at + c / 8) 0) (c % 8)))
row_changed x y x' y' w w' at c hc f g k =
    row_is x' y' w' at _ (length-set (row_in x y w at) c _ ∙ row_length x y w at) (λ d h. one d h (ℕ_discrete d c))
  where
    own : ℕ
    own = count_by (has x' c) (has y' c) (byte_of (get_or w' (at + c / 8) 0) (c % 8))

    one : (d : ℕ) → d < 64 → Dec (d ≡ c) → count_by (has x' d) (has y' d) (byte_of (get_or w' (at + d / 8) 0) (d % 8)) ≡ get_or (set (row_in x y w at) c own) d 0
    one d h (yes e) = rw e (sym (get_or-set_same (row_in x y w at) c own 0 (let m : length (row_in x y w at) ≡ 64 = row_length x y w at in omega arith)))
    one d h (no e) = rw (f d h e, g d h e, k d h e) (sym (get_or-set_other (row_in x y w at) c d own 0 e ∙ row_at x y w at d h))

-- ---- the two rows of a process
module _ (w : List ℕ) (p : ℕ) where
  abbrev m : ℕ
  m = maps_in w p

  abbrev v : ℕ
  v = ways_in w p

  -- what is mapped both ways, and what is mapped
  pub both_has : (c : ℕ) → c < 64 → has (mapped_in (both_row w p)) c ≡ (has m c && has v c)
  unfolding both_row
  both_has c h = row_has (m ∩ v) 0 w (boths_at p) c h ∙ rw (none_has c, inter_has m v c) (least_has (has m c && has v c) _)

  read_has : (c : ℕ) → c < 64 → has (mapped_in (read_row w p)) c ≡ ltb 0 (count_by (has m c) (has v c) (byte_of (get_or w (reads_at p + c / 8) 0) (c % 8)))
  unfolding read_row
  read_has c h = row_has m v w (reads_at p) c h

  pub either_has : (c : ℕ) → c < 64 → (has (mapped_in (read_row w p)) c || has (mapped_in (both_row w p)) c) ≡ has m c
  either_has c h = ap₂ ◌||◌ (read_has c h) (both_has c h) ∙ one_has (has m c) (has v c) _

  -- as sets
  pub fed_set_lem : maps_in w p < 2 ^ 64 → mapped_in (both_row w p) ≡ m ∩ v
  unfolding both_row
  fed_set_lem b = set_ext _ (m ∩ v) (row_lt (m ∩ v) 0 w (boths_at p)) (inter_lt m v b) (λ c h. both_has c h ∙ sym (inter_has m v c))

  pub feeder_set : maps_in w p < 2 ^ 64 → mapped_in (read_row w p) ∪ mapped_in (both_row w p) ≡ m
  unfolding read_row both_row
  feeder_set b =
      set_ext _ m (union_lt _ _ (row_lt m v w (reads_at p)) (row_lt (m ∩ v) 0 w (boths_at p))) b
      (λ c h. union_has (mapped_in (read_row w p)) (mapped_in (both_row w p)) c ∙ either_has c h)

-- Mappings raised, lowered, copied and ended in the words, as the maps have it.
use Prim.Native.Nat.{ℕ, ◌+◌, ◌/◌, ◌%◌, ◌≤◌, ◌<◌}
use native.Mathlib.Omega.{arith}
use native.Mathlib.Decide.{ℕ_discrete}
use mathlib.Core.Path.{◌≡◌, refl, sym, ap, ap₂, subst, ◌∙◌}
use mathlib.Core.Bool.{false, ◌&&◌}
use mathlib.Core.List.{List, []}
use lib.Bits.{and_zero_l}
use lib.ListN.{length, get_or, set, length-set}
use lib.Seq.{set-get_or, get_or-set_same, get_or-set_other, paste, length-paste}
use Rattle.sets.specs.Sets.{has, ◌∩◌}
use Rattle.sets.proofs.Members.{inter_has, none_has}
use Rattle.flow.specs.Box.{to_read, both_ways, Tables, no_mappings, row_of, mappings}
use Rattle.flow.specs.Calls.{with_row, with_rows}
use Rattle.store.specs.declared.counts.Cells.{Cells}
use Rattle.store.specs.Maps.{part, view, with_tables, byte_of, count_by, row_in, maps_in, ways_in, reads_at, boths_at, read_row, both_row}
use Rattle.store.specs.Pairs.{cells_in, stored, read_in, both_in, Turned}
use Rattle.store.proofs.Parts.{part_at, part_length, pasted_at, pasted_other}
use Rattle.store.proofs.Counting.{row_at, row_none, row_words, row_changed}
use Rattle.store.proofs.Writes.{Mine, maps, ways, reads, boths, Outside, outside_more, outside_set, rows_stored, row_of_words, row_viewed}

-- ---- one row of a process set, the other as it is
module _ (t : Tables) (p : ℕ) (l : List ℕ) where
  pub read_alone : with_rows t p l (row_of t both_ways p) ≡ with_row t to_read p l
  unfolding with_rows with_row row_of
  read_alone =
      λ i. record { live = t.live; reads = set t.reads p l; boths = set-get_or t.boths p [] i; descriptors = t.descriptors; names = t.names }

  pub both_alone : with_rows t p (row_of t to_read p) l ≡ with_row t both_ways p l
  unfolding with_rows with_row row_of
  both_alone =
      λ i. record { live = t.live; reads = set-get_or t.reads p [] i; boths = set t.boths p l; descriptors = t.descriptors; names = t.names }

-- ---- one pair stored
module _ (w d n : List ℕ) (long : length w ≡ 353) (p : ℕ) (hp : p < 16) (c : ℕ) (hc : c < 64) where
  abbrev tables : Tables
  tables = (view w d n).tables

  abbrev old : Cells
  old = cells_in w p c

  -- what it counts
  pub reads_counted : mappings tables to_read p c ≡ read_in old c
  unfolding mappings row_of_words read_row read_in cells_in
  reads_counted = ap (λ (l : List ℕ). get_or l c 0) (row_viewed to_read w d n p hp) ∙ row_at (maps_in w p) (ways_in w p) w (reads_at p) c hc

  pub boths_counted : mappings tables both_ways p c ≡ both_in old c
  unfolding mappings row_of_words both_row both_in cells_in
  boths_counted =
      ap (λ (l : List ℕ). get_or l c 0) (row_viewed both_ways w d n p hp) ∙ row_at (maps_in w p ∩ ways_in w p) 0 w (boths_at p) c hc
      ∙ rw (inter_has (maps_in w p) (ways_in w p) c, none_has c) refl

  module _ (y : Cells) (k m : ℕ) (t : Turned old y c k m) where
    abbrev later : List ℕ
    later = stored w p c y

    w₁ : List ℕ
    w₁ = set w (65 + p) y.maps

    w₂ : List ℕ
    w₂ = set w₁ (81 + p) y.ways

    w₃ : List ℕ
    w₃ = set w₂ (reads_at p + c / 8) y.reads

    outside : Outside p w later
    unfolding stored
    outside =
        outside_more (outside_set p w _ y.maps maps)
        (outside_more (outside_set p _ _ y.ways ways) (outside_more (outside_set p _ _ y.reads (reads (c / 8) (omega arith))) (outside_set p _ _ y.boths (boths (c / 8) (omega arith)))))

    -- the four cells, and every other word of counts
    size₁ : length w₁ ≡ 353
    unfolding w₁
    size₁ = length-set w _ _ ∙ long

    size₂ : length w₂ ≡ 353
    unfolding w₂
    size₂ = length-set w₁ _ _ ∙ size₁

    size₃ : length w₃ ≡ 353
    unfolding w₃
    size₃ = length-set w₂ _ _ ∙ size₂

    maps_is : maps_in later p ≡ y.maps
    unfolding stored maps_in w₁ w₂ w₃
    maps_is =
        get_or-set_other w₃ (boths_at p + c / 8) (65 + p) _ 0 (λ e. let z : ⊥ = omega arith in z) ∙ get_or-set_other w₂ (reads_at p + c / 8) (65 + p) _ 0 (λ e. let z : ⊥ = omega arith in z)
        ∙ get_or-set_other w₁ (81 + p) (65 + p) _ 0 (λ e. let z : ⊥ = omega arith in z) ∙ get_or-set_same w (65 + p) _ 0 (omega arith)

    ways_is : ways_in later p ≡ y.ways
    unfolding stored ways_in w₁ w₂ w₃
    ways_is =
        get_or-set_other w₃ (boths_at p + c / 8) (81 + p) _ 0 (λ e. let z : ⊥ = omega arith in z) ∙ get_or-set_other w₂ (reads_at p + c / 8) (81 + p) _ 0 (λ e. let z : ⊥ = omega arith in z)
        ∙ get_or-set_same w₁ (81 + p) _ 0 (omega (arith, size₁))

    read_word : get_or later (reads_at p + c / 8) 0 ≡ y.reads
    unfolding stored w₁ w₂ w₃
    read_word =
        get_or-set_other w₃ (boths_at p + c / 8) (reads_at p + c / 8) _ 0 (λ e. let z : ⊥ = omega arith in z) ∙ get_or-set_same w₂ (reads_at p + c / 8) _ 0 (omega (arith, size₂))

    both_word : get_or later (boths_at p + c / 8) 0 ≡ y.boths
    unfolding stored w₁ w₂ w₃
    both_word = get_or-set_same w₃ (boths_at p + c / 8) _ 0 (omega (arith, size₃))

    elsewhere : (j : ℕ) → 97 ≤ j → (j ≡ reads_at p + c / 8 → ⊥) → (j ≡ boths_at p + c / 8 → ⊥) → get_or later j 0 ≡ get_or w j 0
    unfolding stored w₁ w₂ w₃
    elsewhere j h a b =
        get_or-set_other w₃ (boths_at p + c / 8) j _ 0 b ∙ get_or-set_other w₂ (reads_at p + c / 8) j _ 0 a
        ∙ get_or-set_other w₁ (81 + p) j _ 0 (λ e. let z : ⊥ = omega arith in z) ∙ get_or-set_other w (65 + p) j _ 0 (λ e. let z : ⊥ = omega arith in z)

    -- bytes of another container
    read_byte : (e : ℕ) → e < 64 → (e ≡ c → ⊥) → byte_of (get_or later (reads_at p + e / 8) 0) (e % 8) ≡ byte_of (get_or w (reads_at p + e / 8) 0) (e % 8)
    unfolding cells_in
    read_byte e he f = go (ℕ_discrete (e / 8) (c / 8))
      where
        go : Dec (e / 8 ≡ c / 8) → byte_of (get_or later (reads_at p + e / 8) 0) (e % 8) ≡ byte_of (get_or w (reads_at p + e / 8) 0) (e % 8)
        go (yes q) = rw q (ap (λ (z : ℕ). byte_of z (e % 8)) read_word ∙ t.reads (e % 8) (λ r. f (omega arith)))
        go (no q) = ap (λ (z : ℕ). byte_of z (e % 8)) (elsewhere (reads_at p + e / 8) (omega arith) (λ r. q (omega arith)) (λ r. let z : ⊥ = omega arith in z))

    both_byte : (e : ℕ) → e < 64 → (e ≡ c → ⊥) → byte_of (get_or later (boths_at p + e / 8) 0) (e % 8) ≡ byte_of (get_or w (boths_at p + e / 8) 0) (e % 8)
    unfolding cells_in
    both_byte e he f = go (ℕ_discrete (e / 8) (c / 8))
      where
        go : Dec (e / 8 ≡ c / 8) → byte_of (get_or later (boths_at p + e / 8) 0) (e % 8) ≡ byte_of (get_or w (boths_at p + e / 8) 0) (e % 8)
        go (yes q) = rw q (ap (λ (z : ℕ). byte_of z (e % 8)) both_word ∙ t.boths (e % 8) (λ r. f (omega arith)))
        go (no q) = ap (λ (z : ℕ). byte_of z (e % 8)) (elsewhere (boths_at p + e / 8) (omega arith) (λ r. let z : ⊥ = omega arith in z) (λ r. q (omega arith)))

    read_row_lem : read_row later p ≡ set (row_of tables to_read p) c k
    unfolding read_row row_of_words read_in cells_in
    read_row_lem =
        rw (maps_is, ways_is, row_viewed to_read w d n p hp)
        (row_changed (maps_in w p) (ways_in w p) y.maps y.ways w later (reads_at p) c hc t.maps t.ways read_byte
        ∙ ap (set (row_in (maps_in w p) (ways_in w p) w (reads_at p)) c) (ap (λ (z : ℕ). count_by (has y.maps c) (has y.ways c) (byte_of z (c % 8))) read_word ∙ t.read))

    both_row_lem : both_row later p ≡ set (row_of tables both_ways p) c m
    unfolding both_row row_of_words both_in cells_in
    both_row_lem =
        rw (maps_is, ways_is, row_viewed both_ways w d n p hp)
        (row_changed (maps_in w p ∩ ways_in w p) 0 (y.maps ∩ y.ways) 0 w later (boths_at p) c hc
        (λ e he f. inter_has y.maps y.ways e ∙ ap₂ ◌&&◌ (t.maps e he f) (t.ways e he f) ∙ sym (inter_has (maps_in w p) (ways_in w p) e)) (λ e he f. refl) both_byte
        ∙ ap (set (row_in (maps_in w p ∩ ways_in w p) 0 w (boths_at p)) c) (rw (inter_has y.maps y.ways c, none_has c) (ap (λ (z : ℕ). count_by (has y.maps c && has y.ways c) false (byte_of z (c % 8))) both_word ∙ t.both)))

    pub turned_view : view later d n ≡ with_tables (view w d n) (with_rows tables p (set (row_of tables to_read p) c k) (set (row_of tables both_ways p) c m))
    turned_view = rows_stored w later d n p hp long outside _ _ read_row_lem both_row_lem

-- ---- mappings ended
none_inter : (v : ℕ) → 0 ∩ v ≡ 0
unfolding ◌∩◌
none_inter v = and_zero_l v

pub read_none : (w : List ℕ) (p : ℕ) → get_or w (65 + p) 0 ≡ 0 → read_row w p ≡ no_mappings
unfolding read_row maps_in
read_none w p e = rw e (row_none (ways_in w p) w (reads_at p))

pub both_none : (w : List ℕ) (p : ℕ) → get_or w (65 + p) 0 ≡ 0 → both_row w p ≡ no_mappings
unfolding both_row maps_in
both_none w p e = rw (e, none_inter (ways_in w p)) (row_none 0 w (boths_at p))

pub rows_cleared : (w d n : List ℕ) → length w ≡ 353 → (p : ℕ) → p < 16 → view (set w (65 + p) 0) d n ≡ with_tables (view w d n) (with_rows (view w d n).tables p no_mappings no_mappings)
rows_cleared w d n long p hp = rows_stored w (set w (65 + p) 0) d n p hp long (outside_set p w (65 + p) 0 maps) no_mappings no_mappings read both
  where
    none : get_or (set w (65 + p) 0) (65 + p) 0 ≡ 0
    none = get_or-set_same w (65 + p) 0 0 (omega arith)

    read : read_row (set w (65 + p) 0) p ≡ no_mappings
    read = read_none (set w (65 + p) 0) p none

    both : both_row (set w (65 + p) 0) p ≡ no_mappings
    both = both_none (set w (65 + p) 0) p none

-- ---- the rows of one process copied to another
module _ (w d n : List ℕ) (long : length w ≡ 353) (p q : ℕ) (hp : p < 16) (hq : q < 16) where
  abbrev from : Tables
  from = (view w d n).tables

  abbrev sets : List ℕ
  sets = set (set w (65 + q) (get_or w (65 + p) 0)) (81 + q) (get_or w (81 + p) 0)

  abbrev given : List ℕ → Type 0
  given w' = view w' d n ≡ with_tables (view w d n) (with_rows from q (row_of from to_read p) (row_of from both_ways p))

  pub size_sets : length sets ≡ 353
  size_sets = length-set (set w (65 + q) _) (81 + q) _ ∙ length-set w (65 + q) _ ∙ long

  outside_sets : Outside q w sets
  outside_sets = outside_more (outside_set q w (65 + q) _ maps) (outside_set q _ (81 + q) _ ways)

  maps_copied : get_or sets (65 + q) 0 ≡ get_or w (65 + p) 0
  maps_copied = get_or-set_other (set w (65 + q) _) (81 + q) (65 + q) _ 0 (λ e. let z : ⊥ = omega arith in z) ∙ get_or-set_same w (65 + q) _ 0 (omega arith)

  ways_copied : get_or sets (81 + q) 0 ≡ get_or w (81 + p) 0
  ways_copied = get_or-set_same (set w (65 + q) _) (81 + q) _ 0 (let e : length (set w (65 + q) (get_or w (65 + p) 0)) ≡ 353 = length-set w (65 + q) _ ∙ long in omega arith)

  -- where there are none
  pub copied_none : get_or w (65 + p) 0 ≡ 0 → given sets
  unfolding row_of_words
  copied_none e =
      rows_stored w sets d n q hq long outside_sets _ _
      (read_none sets q (maps_copied ∙ e) ∙ sym (row_viewed to_read w d n p hp ∙ read_none w p e))
      (both_none sets q (maps_copied ∙ e) ∙ sym (row_viewed both_ways w d n p hp ∙ both_none w p e))

  -- eight words, then eight more
  module _ (l : List ℕ) (size : length l ≡ 353) (source at : ℕ) (hs : source < 346) (ha : at < 346) (mine : (i : ℕ) → i < 8 → Mine q (at + i)) where
    abbrev block : List ℕ
    block = part source 8 l

    eight : length block ≡ 8
    eight = part_length source 8 l (omega arith)

    copied_at : (i : ℕ) → i < 8 → get_or (paste l at block 8) (at + i) 0 ≡ get_or l (source + i) 0
    copied_at i h = pasted_at l at 8 block (omega arith) (omega (arith, eight)) i h ∙ sym (part_at source 8 l i h)

    other : (j : ℕ) → ((i : ℕ) → i < 8 → j ≡ at + i → ⊥) → get_or (paste l at block 8) j 0 ≡ get_or l j 0
    other j f = pasted_other l at 8 block (omega arith) (omega (arith, eight)) j f

    pasted : Outside q l (paste l at block 8)
    pasted =
        record {
          size = length-paste l at block 8 (omega arith) (omega (arith, eight));
          same = λ j f. other j (λ i h e. f (subst (Mine q) (sym e) (mine i h)));
        }

  abbrev first : List ℕ
  first = paste sets (reads_at q) (part (reads_at p) 8 sets) 8

  abbrev second : List ℕ
  second = paste first (boths_at q) (part (boths_at p) 8 first) 8

  outside_first : Outside q sets first
  outside_first = pasted sets size_sets (reads_at p) (reads_at q) (omega arith) (omega arith) reads

  pub size_first : length first ≡ 353
  size_first = outside_first.size ∙ size_sets

  outside_second : Outside q first second
  outside_second = pasted first size_first (boths_at p) (boths_at q) (omega arith) (omega arith) boths

  -- a word behind the sets is as it was in `sets`
  behind : (j : ℕ) → 97 ≤ j → get_or sets j 0 ≡ get_or w j 0
  behind j h = get_or-set_other (set w (65 + q) _) (81 + q) j _ 0 (λ e. let z : ⊥ = omega arith in z) ∙ get_or-set_other w (65 + q) j _ 0 (λ e. let z : ⊥ = omega arith in z)

  sets_last : (j : ℕ) → j < 97 → get_or second j 0 ≡ get_or sets j 0
  sets_last j h =
      other first size_first (boths_at p) (boths_at q) (omega arith) (omega arith) boths j (λ i l e. let z : ⊥ = omega arith in z)
      ∙ other sets size_sets (reads_at p) (reads_at q) (omega arith) (omega arith) reads j (λ i l e. let z : ⊥ = omega arith in z)

  reads_last : (i : ℕ) → i < 8 → get_or second (reads_at q + i) 0 ≡ get_or w (reads_at p + i) 0
  reads_last i h =
      other first size_first (boths_at p) (boths_at q) (omega arith) (omega arith) boths (reads_at q + i) (λ k l e. let z : ⊥ = omega arith in z)
      ∙ copied_at sets size_sets (reads_at p) (reads_at q) (omega arith) (omega arith) reads i h ∙ behind (reads_at p + i) (omega arith)

  boths_last : (i : ℕ) → i < 8 → get_or second (boths_at q + i) 0 ≡ get_or w (boths_at p + i) 0
  boths_last i h =
      copied_at first size_first (boths_at p) (boths_at q) (omega arith) (omega arith) boths i h
      ∙ other sets size_sets (reads_at p) (reads_at q) (omega arith) (omega arith) reads (boths_at p + i) (λ k l e. let z : ⊥ = omega arith in z) ∙ behind (boths_at p + i) (omega arith)

  pub copied_all : given second
  unfolding row_of_words read_row both_row maps_in ways_in
  copied_all =
      rows_stored w second d n q hq long (outside_more outside_sets (outside_more outside_first outside_second)) _ _
      (rw (sets_last (65 + q) (omega arith), maps_copied, sets_last (81 + q) (omega arith), ways_copied, row_viewed to_read w d n p hp) (row_words _ _ w second (reads_at p) (reads_at q) reads_last))
      (rw (sets_last (65 + q) (omega arith), maps_copied, sets_last (81 + q) (omega arith), ways_copied, row_viewed both_ways w d n p hp) (row_words _ 0 w second (boths_at p) (boths_at q) boths_last))

-- A store in one part of the words leaves the others.
use Prim.Native.Nat.{ℕ, ◌+◌, ◌*◌, ◌<◌, ◌≤◌}
use native.Mathlib.Omega.{arith}
use native.Mathlib.Decide.{ℕ_discrete}
use mathlib.Core.Path.{◌≡◌, refl, sym, ap, ap₂, subst, ◌∙◌}
use mathlib.Core.List.{List, []}
use lib.ListN.{length, get_or, set, take, length-set, get_or-eq_default}
use lib.Seq.{drop-set-lt, get_or-set_same, get_or-set_other, ext_get_or}
use Rattle.sets.specs.Sets.{◌∩◌}
use Rattle.flow.specs.Lists.{table}
use Rattle.flow.specs.Box.{Sort, to_read, both_ways, row_of}
use Rattle.flow.specs.Calls.{with_live, with_row, with_rows}
use Rattle.flow.proofs.TableLaws.{table_at, table_length}
use Rattle.flow.proofs.Mapping.{Sized}
use Rattle.store.specs.Maps.{part, view, with_tables, row_in, maps_in, ways_in, reads_at, boths_at, read_row, both_row}
use Rattle.store.proofs.Parts.{part_at, part_length}
use Rattle.store.proofs.Counting.{row_words}

module _ (a n : ℕ) (w : List ℕ) where
  pub part_before : (j v : ℕ) → j < a → part a n (set w j v) ≡ part a n w
  unfolding part
  part_before j v h = ap (take n) (drop-set-lt a w j v h)

-- ---- the places of process p in the words: its two sets and its words of counts
pub data Mine (p : ℕ) : ℕ → Type 0 where
  maps : Mine p (65 + p)
  ways : Mine p (81 + p)
  reads : (i : ℕ) → i < 8 → Mine p (reads_at p + i)
  boths : (i : ℕ) → i < 8 → Mine p (boths_at p + i)

-- outside them the words are as before
pub record Outside (p : ℕ) (w w' : List ℕ) : Type 0 where
  pub size : length w' ≡ length w
  pub same : (j : ℕ) → (Mine p j → ⊥) → get_or w' j 0 ≡ get_or w j 0

pub outside_more : {p : ℕ} {w w' w'' : List ℕ} → Outside p w w' → Outside p w' w'' → Outside p w w''
outside_more f g = record { size = g.size ∙ f.size; same = λ j h. g.same j h ∙ f.same j h }

pub outside_set : (p : ℕ) (w : List ℕ) (j v : ℕ) → Mine p j → Outside p w (set w j v)
outside_set p w j v m = record { size = length-set w j v; same = λ i h. get_or-set_other w j i v 0 (λ e. h (subst (Mine p) (sym e) m)) }

-- a row of a process goes by its places
pub read_same : (w w' : List ℕ) (q : ℕ) → ((j : ℕ) → Mine q j → get_or w' j 0 ≡ get_or w j 0) → read_row w' q ≡ read_row w q
unfolding read_row maps_in ways_in
read_same w w' q f = ap₂ (λ (x y : ℕ). row_in x y w' (reads_at q)) (f (65 + q) maps) (f (81 + q) ways) ∙ row_words _ _ w w' (reads_at q) (reads_at q) (λ i h. f (reads_at q + i) (reads i h))

pub both_same : (w w' : List ℕ) (q : ℕ) → ((j : ℕ) → Mine q j → get_or w' j 0 ≡ get_or w j 0) → both_row w' q ≡ both_row w q
unfolding both_row maps_in ways_in
both_same w w' q f =
    ap₂ (λ (x y : ℕ). row_in (x ∩ y) 0 w' (boths_at q)) (f (65 + q) maps) (f (81 + q) ways) ∙ row_words _ 0 w w' (boths_at q) (boths_at q) (λ i h. f (boths_at q + i) (boths i h))

-- the rows of all processes: as before, or but for one
pub rows_same : (row : List ℕ → ℕ → List ℕ) (w w' : List ℕ) → ((p : ℕ) → p < 16 → row w' p ≡ row w p) → table 16 (row w') ≡ table 16 (row w)
rows_same row w w' f =
    ext_get_or [] (table 16 (row w')) (table 16 (row w)) (table_length 16 (row w') ∙ sym (table_length 16 (row w)))
    (λ p h. let e : length (table 16 (row w')) ≡ 16 = table_length 16 (row w') in
    let l : p < 16 = omega arith in
    table_at 16 (row w') p [] l ∙ f p l ∙ sym (table_at 16 (row w) p [] l))

rows_one : (row : List ℕ → ℕ → List ℕ) (w w' : List ℕ) (p : ℕ) (l : List ℕ) → p < 16 → row w' p ≡ l → ((q : ℕ) → q < 16 → (q ≡ p → ⊥) → row w' q ≡ row w q) → table 16 (row w') ≡ set (table 16 (row w)) p l
rows_one row w w' p l hp e f =
    ext_get_or [] (table 16 (row w')) (set (table 16 (row w)) p l) (table_length 16 (row w') ∙ sym (length-set (table 16 (row w)) p l ∙ table_length 16 (row w)))
    (λ q h. let m : length (table 16 (row w')) ≡ 16 = table_length 16 (row w') in let b : q < 16 = omega arith in table_at 16 (row w') q [] b ∙ one q b (ℕ_discrete q p))
  where
    one : (q : ℕ) → q < 16 → Dec (q ≡ p) → row w' q ≡ get_or (set (table 16 (row w)) p l) q []
    one q b (yes i) = rw i (e ∙ sym (get_or-set_same (table 16 (row w)) p l [] (let m : length (table 16 (row w)) ≡ 16 = table_length 16 (row w) in omega arith)))
    one q b (no i) = f q b i ∙ sym (get_or-set_other (table 16 (row w)) p q l [] i ∙ table_at 16 (row w) q [] b)

pub mine_behind : (p j : ℕ) → Mine p j → 65 ≤ j
mine_behind p _ maps = omega arith
mine_behind p _ ways = omega arith
mine_behind p _ (reads i h) = omega arith
mine_behind p _ (boths i h) = omega arith

not_first : (p j : ℕ) → Mine p j → j ≡ 0 → ⊥
not_first p j m e = let l : 65 ≤ j = mine_behind p j m in let z : ⊥ = omega arith in z

module _ (w d n : List ℕ) where
  pub live_set : (v : ℕ) → 0 < length w → view (set w 0 v) d n ≡ with_tables (view w d n) (with_live (view w d n).tables v)
  unfolding view with_live
  live_set v h =
      λ k. record {
        tables =
            record {
              live = get_or-set_same w 0 v 0 h k;
              reads = rows_same read_row w (set w 0 v) (λ p l. read_same w (set w 0 v) p (λ j m. get_or-set_other w 0 j v 0 (not_first p j m))) k;
              boths = rows_same both_row w (set w 0 v) (λ p l. both_same w (set w 0 v) p (λ j m. get_or-set_other w 0 j v 0 (not_first p j m))) k;
              descriptors = d;
              names = n;
            };
        items = part_before 1 64 w 0 v (omega arith) k;
      }

-- what is not among them: the live processes, the items, and the places of another process
pub not_mine : (p j : ℕ) → (j ≡ 65 + p → ⊥) → (j ≡ 81 + p → ⊥) → ((i : ℕ) → i < 8 → j ≡ 97 + 8 * p + i → ⊥) → ((i : ℕ) → i < 8 → j ≡ 225 + 8 * p + i → ⊥) → Mine p j → ⊥
not_mine p j a b c d maps = a refl
not_mine p j a b c d ways = b refl
not_mine p j a b c d (reads i h) = c i h refl
not_mine p j a b c d (boths i h) = d i h refl

apart : (p q j : ℕ) → p < 16 → q < 16 → (q ≡ p → ⊥) → Mine q j → Mine p j → ⊥
apart p q _ hp hq e maps =
    not_mine p (65 + q) (λ f. e (omega arith)) (λ f. let z : ⊥ = omega arith in z) (λ i l f. let z : ⊥ = omega arith in z) (λ i l f. let z : ⊥ = omega arith in z)
apart p q _ hp hq e ways =
    not_mine p (81 + q) (λ f. let z : ⊥ = omega arith in z) (λ f. e (omega arith)) (λ i l f. let z : ⊥ = omega arith in z) (λ i l f. let z : ⊥ = omega arith in z)
apart p q _ hp hq e (reads k h) =
    not_mine p (reads_at q + k) (λ f. let z : ⊥ = omega arith in z) (λ f. let z : ⊥ = omega arith in z) (λ i l f. e (omega arith)) (λ i l f. let z : ⊥ = omega arith in z)
apart p q _ hp hq e (boths k h) =
    not_mine p (boths_at q + k) (λ f. let z : ⊥ = omega arith in z) (λ f. let z : ⊥ = omega arith in z) (λ i l f. let z : ⊥ = omega arith in z) (λ i l f. e (omega arith))

module _ (w w' d n : List ℕ) (p : ℕ) (hp : p < 16) (long : length w ≡ 353) (o : Outside p w w') where
  before : (j : ℕ) → j < 65 → get_or w' j 0 ≡ get_or w j 0
  before j h =
      o.same j
      (not_mine p j (λ e. let z : ⊥ = omega arith in z) (λ e. let z : ⊥ = omega arith in z) (λ i l e. let z : ⊥ = omega arith in z) (λ i l e. let z : ⊥ = omega arith in z))

  items_same : part 1 64 w' ≡ part 1 64 w
  items_same =
      ext_get_or 0 (part 1 64 w') (part 1 64 w) (part_length 1 64 w' (omega (arith, o.size)) ∙ sym (part_length 1 64 w (omega arith)))
      (λ i h. let l : length (part 1 64 w') ≡ 64 = part_length 1 64 w' (omega (arith, o.size)) in
      sym (part_at 1 64 w' i (omega arith)) ∙ before (1 + i) (omega arith) ∙ part_at 1 64 w i (omega arith))

  -- the rows of another process
  others : (q : ℕ) → q < 16 → (q ≡ p → ⊥) → (j : ℕ) → Mine q j → get_or w' j 0 ≡ get_or w j 0
  others q hq e j m = o.same j (apart p q j hp hq e m)

  -- the maps then: both rows of the process are others
  pub rows_stored : (l k : List ℕ) → read_row w' p ≡ l → both_row w' p ≡ k → view w' d n ≡ with_tables (view w d n) (with_rows (view w d n).tables p l k)
  unfolding view with_rows with_row
  rows_stored l k e f =
      λ i. record {
        tables =
            record {
              live = before 0 (omega arith) i;
              reads = rows_one read_row w w' p l hp e (λ q hq h. read_same w w' q (others q hq h)) i;
              boths = rows_one both_row w w' p k hp f (λ q hq h. both_same w w' q (others q hq h)) i;
              descriptors = d;
              names = n;
            };
        items = items_same i;
      }

-- ---- the rows that the maps have
unfoldable pub row_of_words : Sort → List ℕ → ℕ → List ℕ
row_of_words to_read w p = read_row w p
row_of_words both_ways w p = both_row w p

pub row_viewed : (x : Sort) (w d n : List ℕ) (p : ℕ) → p < 16 → row_of (view w d n).tables x p ≡ row_of_words x w p
unfolding view row_of row_of_words
row_viewed to_read w d n p h = table_at 16 (read_row w) p [] h
row_viewed both_ways w d n p h = table_at 16 (both_row w) p [] h

pub row_past : (x : Sort) (w d n : List ℕ) (p : ℕ) → 16 ≤ p → row_of (view w d n).tables x p ≡ []
unfolding view row_of
row_past to_read w d n p h = get_or-eq_default (table 16 (read_row w)) [] {n = p} (let e : length (table 16 (read_row w)) ≡ 16 = table_length 16 (read_row w) in omega arith)
row_past both_ways w d n p h = get_or-eq_default (table 16 (both_row w)) [] {n = p} (let e : length (table 16 (both_row w)) ≡ 16 = table_length 16 (both_row w) in omega arith)

pub sized_view : (w d n : List ℕ) → Sized (view w d n).tables
unfolding view
sized_view w d n = record { reads = table_length 16 (read_row w); boths = table_length 16 (both_row w) }

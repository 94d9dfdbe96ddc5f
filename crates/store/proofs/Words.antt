-- The words as maps: rows are sets, and the reach goes by the links in them.
use Prim.Native.Nat.{ℕ, ◌+◌, ◌-◌, ◌*◌, ◌≤◌, ◌<◌, ◌^◌}
use native.Mathlib.Omega.{arith}
use native.Mathlib.Decide.{dec_lt}
use mathlib.Core.Path.{◌≡◌, refl, sym, ap, ap₂, subst, ◌∙◌}
use mathlib.Core.List.{List, [], ◌++◌}
use lib.ListN.{length, get_or, set, replicate, take, drop, drop_of_length-le, length-replicate, get_or-replicate}
use lib.Seq.{get_or-take, get_or-drop, length-take-le, drop-append_seam, take-append_seam, ext_get_or}
use borrow.Rule.Slice.PartMut.{put_mid, post_of, take_put, drop_put}
use Rattle.sets.specs.Sets.{only, ◌∪◌, ◌∩◌}
use Rattle.sets.proofs.Members.{inter_lt}
use Rattle.sets.proofs.Unions.{none_union}
use Rattle.flow.specs.Lists.{table}
use Rattle.flow.specs.Box.{slot, closed, no_mappings, no_tables, to_read, both_ways, Tables, row_of, mapped_in, feeders_of, feeds}
use Rattle.flow.specs.Links.{reach, given}
use Rattle.flow.specs.Calls.{block}
use Rattle.flow.proofs.Counts.{zeros}
use Rattle.flow.proofs.TableLaws.{table_at, table_length}
use Rattle.store.specs.Maps.{part, view, maps_in, ways_in, read_row, both_row, with_items, cleared, items_by}
use Rattle.store.specs.declared.Plan.{Plan}
use Rattle.store.proofs.Parts.{part_at, part_past, part_length}
use Rattle.store.proofs.Worklist.{cleared_one, cleared_none}
use Rattle.store.proofs.Counting.{feeder_set, fed_set_lem}
use Rattle.store.proofs.Writes.{mine_behind, read_same, both_same, rows_same, row_of_words, row_viewed, row_past}
use Rattle.store.proofs.Storing.{read_none, both_none}
use Rattle.store.proofs.Spreading.{reach_same}

-- ---- the links of the words, whatever the other tables are
module _ (w d n : List ℕ) (p : ℕ) where
  pub feeders_is : p < 16 → maps_in w p < 2 ^ 64 → feeders_of (view w d n).tables p ≡ maps_in w p
  unfolding feeders_of row_of_words
  feeders_is h b = ap₂ (λ (l k : List ℕ). mapped_in l ∪ mapped_in k) (row_viewed to_read w d n p h) (row_viewed both_ways w d n p h) ∙ feeder_set w p b

  pub feeds_is : p < 16 → maps_in w p < 2 ^ 64 → feeds (view w d n).tables p ≡ maps_in w p ∩ ways_in w p
  unfolding feeds row_of_words
  feeds_is h b = ap mapped_in (row_viewed both_ways w d n p h) ∙ fed_set_lem w p b

  pub feeders_past : 16 ≤ p → feeders_of (view w d n).tables p ≡ 0
  unfolding feeders_of mapped_in
  feeders_past h = ap₂ (λ (l k : List ℕ). mapped_in l ∪ mapped_in k) (row_past to_read w d n p h) (row_past both_ways w d n p h) ∙ none_union 0

  feeds_past : 16 ≤ p → feeds (view w d n).tables p ≡ 0
  unfolding feeds mapped_in
  feeds_past h = ap mapped_in (row_past both_ways w d n p h)

-- what process p maps, as it lies in the words
pub feeders_row : (w d n : List ℕ) → ((i : ℕ) → get_or w i 0 < 2 ^ 64) → (p : ℕ) → get_or (part 65 16 w) p 0 ≡ feeders_of (view w d n).tables p
unfolding maps_in
feeders_row w d n bound p = go (dec_lt p 16)
  where
    go : Dec (p < 16) → get_or (part 65 16 w) p 0 ≡ feeders_of (view w d n).tables p
    go (yes h) = sym (part_at 65 16 w p h) ∙ sym (feeders_is w d n p h (bound (65 + p)))
    go (no h) = sym (part_past 65 16 w p (omega arith)) ∙ sym (feeders_past w d n p (omega arith))

abbrev pub links_of : List ℕ → Tables
links_of w = (view w [] []).tables

pub reach_view : (w d n : List ℕ) (u : ℕ) → reach (links_of w) u ≡ reach (view w d n).tables u
unfolding view feeders_of feeds row_of
reach_view w d n u = reach_same (links_of w) (view w d n).tables (λ p. refl) (λ p. refl) u

-- what each process maps both ways
unfoldable pub fed_rows : List ℕ → List ℕ
fed_rows w = table 16 (λ p. maps_in w p ∩ ways_in w p)

module _ (w : List ℕ) (bound : (i : ℕ) → get_or w i 0 < 2 ^ 64) where
  maps_lt : (p : ℕ) → maps_in w p < 2 ^ 64
  unfolding maps_in
  maps_lt p = bound (65 + p)

  pub outs_of : (p : ℕ) → p < 16 → feeds (links_of w) p ≡ get_or (fed_rows w) p 0
  unfolding fed_rows
  outs_of p hp = feeds_is w [] [] p hp (maps_lt p) ∙ sym (table_at 16 _ p 0 hp)

  pub ins_of : (p : ℕ) → p < 16 → feeders_of (links_of w) p ≡ get_or (part 65 16 w) p 0
  unfolding maps_in
  ins_of p hp = feeders_is w [] [] p hp (bound (65 + p)) ∙ part_at 65 16 w p hp

  pub outs_bound : (p : ℕ) → feeds (links_of w) p < 2 ^ 64
  outs_bound p = go (dec_lt p 16)
    where
      go : Dec (p < 16) → feeds (links_of w) p < 2 ^ 64
      go (yes h) = subst (λ (x : ℕ). x < 2 ^ 64) (sym (feeds_is w [] [] p h (maps_lt p))) (inter_lt (maps_in w p) (ways_in w p) (maps_lt p))
      go (no h) = subst (λ (x : ℕ). x < 2 ^ 64) (sym (feeds_past w [] [] p (omega arith))) (omega arith)

-- ---- the items replaced, as a part that was lent comes back
module _ (w l d n : List ℕ) (long : length w ≡ 353) (size : length l ≡ 64) where
  put_items : part 1 64 (put_mid 1 64 w l) ≡ l
  unfolding part
  put_items =
      let e : length (take 1 w) ≡ 1 = length-take-le 1 w (omega arith) in
      ap (λ (x : List ℕ). take 64 x) (ap (λ (k : ℕ). drop k (put_mid 1 64 w l)) (sym e) ∙ drop-append_seam (take 1 w) _)
      ∙ ap (λ (k : ℕ). take k (l ++ post_of 1 64 w)) (sym size) ∙ take-append_seam l _

  put_after : drop 65 (put_mid 1 64 w l) ≡ drop 65 w
  put_after = drop_put 1 65 w l (omega arith) (omega arith) size

  -- a word behind them
  behind : (j : ℕ) → 65 ≤ j → get_or (put_mid 1 64 w l) j 0 ≡ get_or w j 0
  behind j h =
      let e : j ≡ 65 + (j - 65) = omega arith in
      ap (λ (k : ℕ). get_or (put_mid 1 64 w l) k 0) e ∙ sym (get_or-drop 65 (put_mid 1 64 w l) (j - 65) 0) ∙ ap (λ (z : List ℕ). get_or z (j - 65) 0) put_after ∙ get_or-drop 65 w (j - 65) 0
      ∙ ap (λ (k : ℕ). get_or w k 0) (sym e)

  pub items_put : view (put_mid 1 64 w l) d n ≡ with_items (view w d n) l
  unfolding view part
  items_put =
      λ k. record {
        tables =
            record {
              live = (sym (get_or-take 1 (put_mid 1 64 w l) 0 0 (omega arith)) ∙ ap (λ (x : List ℕ). get_or x 0 0) (take_put 1 64 w l (omega arith)) ∙ get_or-take 1 w 0 0 (omega arith)) k;
              reads = rows_same read_row w (put_mid 1 64 w l) (λ p h. read_same w (put_mid 1 64 w l) p (λ j m. behind j (mine_behind p j m))) k;
              boths = rows_same both_row w (put_mid 1 64 w l) (λ p h. both_same w (put_mid 1 64 w l) p (λ j m. behind j (mine_behind p j m))) k;
              descriptors = d;
              names = n;
            };
        items = put_items k;
      }

cleared_length : (l : List ℕ) (x : ℕ) → length (cleared l x) ≡ 64
unfolding cleared
cleared_length l x = table_length 64 _

pub by_length : (l : List ℕ) (p : Plan) → length (items_by l p) ≡ 64
unfolding items_by given
by_length l p = table_length 64 _

-- as equations for what the part holds then
module _ (w l d n : List ℕ) (long : length w ≡ 353) where
  made : (m : List ℕ) → length m ≡ 64 → l ≡ m → view (put_mid 1 64 w l) d n ≡ with_items (view w d n) m
  made m size e = ap (λ (x : List ℕ). view (put_mid 1 64 w x) d n) e ∙ items_put w m d n long size

  pub items_made : (p : Plan) → l ≡ items_by (take 64 (drop 1 w)) p → view (put_mid 1 64 w l) d n ≡ with_items (view w d n) (items_by (view w d n).items p)
  unfolding view part
  items_made p e = made _ (by_length _ p) e

  pub items_cleared : (r : ℕ) → l ≡ cleared (take 64 (drop 1 w)) r → view (put_mid 1 64 w l) d n ≡ with_items (view w d n) (cleared (view w d n).items r)
  unfolding view part
  items_cleared r e = made _ (cleared_length _ r) e

  pub item_cleared : (v : ℕ) → v < 64 → l ≡ set (take 64 (drop 1 w)) v 0 → view (put_mid 1 64 w l) d n ≡ with_items (view w d n) (cleared (view w d n).items (only v))
  unfolding part
  item_cleared v h e = items_cleared (only v) (e ∙ cleared_one (take 64 (drop 1 w)) v (part_length 1 64 w (omega arith)) h)

pub none_cleared : (w d n : List ℕ) → length w ≡ 353 → view w d n ≡ with_items (view w d n) (cleared (view w d n).items 0)
unfolding view
none_cleared w d n long = ap (with_items (view w d n)) (cleared_none (part 1 64 w) (part_length 1 64 w (omega arith)))

-- past the last process there are no descriptors
pub block_past : (l : List ℕ) (p : ℕ) → length l ≤ 32 * p → block l p ≡ []
unfolding block
block_past l p h = let k : length l ≤ slot p 0 = omega arith in ap (take 32) (drop_of_length-le l k)

-- ---- all words 0, all entries closed
pub fresh_view : view (replicate 353 0) (replicate 512 closed) (replicate 128 closed) ≡ record { tables = no_tables; items = replicate 64 0 }
unfolding view part no_tables
fresh_view =
    λ k. record {
      tables =
          record {
            live = 0;
            reads = rows_fresh read_row (λ p h. read_none (replicate 353 0) p (zeros 353 (65 + p))) k;
            boths = rows_fresh both_row (λ p h. both_none (replicate 353 0) p (zeros 353 (65 + p))) k;
            descriptors = replicate 512 closed;
            names = replicate 128 closed;
          };
      items = replicate 64 0;
    }
  where
    rows_fresh : (row : List ℕ → ℕ → List ℕ) → ((p : ℕ) → p < 16 → row (replicate 353 0) p ≡ no_mappings) → table 16 (row (replicate 353 0)) ≡ replicate 16 no_mappings
    rows_fresh row f =
        ext_get_or [] (table 16 (row (replicate 353 0))) (replicate 16 no_mappings) (table_length 16 _ ∙ sym (length-replicate {A = List ℕ} 16 no_mappings))
        (λ p h. let e : length (table 16 (row (replicate 353 0))) ≡ 16 = table_length 16 _ in let l : p < 16 = omega arith in table_at 16 _ p [] l ∙ f p l ∙ sym (get_or-replicate 16 p no_mappings [] l))

-- Rows of counts put into words: every row that a state has is stored, and read back as it was.
use Prim.Native.Nat.{ℕ, zero, suc, ◌+◌, ◌*◌, ◌/◌, ◌%◌, ◌^◌, ◌≤◌, ◌<◌}
use native.Mathlib.Omega.{arith}
use native.Mathlib.Decide.{ℕ_discrete}
use mathlib.Core.Path.{◌≡◌, refl, sym, ap, ap₂, ◌∙◌}
use mathlib.Core.Bool.{false, ◌&&◌, ◌||◌, or-true}
use mathlib.Core.List.{List, []}
use lib.Dec.{ltb}
use lib.ListN.{length, get_or}
use lib.Seq.{ext_get_or}
use lib.Pow.{pow_pos}
use borrow.Author.Tests.{ltb-true}
use Rattle.sets.specs.Sets.{has, ◌∪◌, ◌∩◌}
use Rattle.sets.proofs.Members.{union_has, inter_has, none_has}
use Rattle.flow.specs.Lists.{table}
use Rattle.flow.specs.Box.{mapped_in}
use Rattle.flow.proofs.Bools.{by}
use Rattle.flow.proofs.TableLaws.{table_at, table_length}
use Rattle.flow.proofs.Counts.{mapped_has}
use Rattle.flow.proofs.Rows.{Rows}
use Rattle.store.specs.Maps.{part, byte_of, put_byte, count_by, maps_in, ways_in, reads_at, boths_at, read_row, both_row}
use Rattle.store.proofs.Parts.{part_at}
use Rattle.store.proofs.Bytes.{byte_put, byte_other, put_lt}
use Rattle.store.proofs.Counting.{not_above, least_more, row_is}

-- the first n bytes of a word, by a function
bytes_by : (ℕ → ℕ) → ℕ → ℕ
bytes_by f zero = 0
bytes_by f (suc n) = put_byte (bytes_by f n) n (f n)

bytes_at : (f : ℕ → ℕ) → ((j : ℕ) → f j < 256) → (n j : ℕ) → j < n → byte_of (bytes_by f n) j ≡ f j
unfolding bytes_by
bytes_at f h zero j l = absurd (let z : ⊥ = omega arith in z)
bytes_at f h (suc n) j l = go (ℕ_discrete j n) (bytes_at f h n j)
  where
    go : Dec (j ≡ n) → (j < n → byte_of (bytes_by f n) j ≡ f j) → byte_of (put_byte (bytes_by f n) n (f n)) j ≡ f j
    go (yes e) k = rw e (byte_put (bytes_by f n) n (f n) (h n))
    go (no e) k = byte_other (bytes_by f n) n (f n) (h n) j e ∙ k (omega arith)

bytes_lt : (f : ℕ → ℕ) → ((j : ℕ) → f j < 256) → (n : ℕ) → n ≤ 8 → bytes_by f n < 2 ^ 64
unfolding bytes_by
bytes_lt f h zero l = pow_pos 64
bytes_lt f h (suc n) l = put_lt (bytes_by f n) n (f n) (h n) (omega arith) (bytes_lt f h n (omega arith))

-- word i of a row: eight counts
pub packed : List ℕ → ℕ → ℕ
packed row i = bytes_by (λ j. get_or row (8 * i + j) 0) 8

small : (row : List ℕ) → ((c : ℕ) → get_or row c 0 ≤ 255) → (c : ℕ) → get_or row c 0 < 256
small row h c = let l : get_or row c 0 ≤ 255 = h c in omega arith

pub packed_lt : (row : List ℕ) (i : ℕ) → ((c : ℕ) → get_or row c 0 ≤ 255) → packed row i < 2 ^ 64
unfolding packed
packed_lt row i h = bytes_lt _ (λ j. small row h (8 * i + j)) 8 (omega arith)

packed_at : (row : List ℕ) (c : ℕ) → ((c : ℕ) → get_or row c 0 ≤ 255) → byte_of (packed row (c / 8)) (c % 8) ≡ get_or row c 0
unfolding packed
packed_at row c h =
    bytes_at _ (λ j. small row h (8 * (c / 8) + j)) 8 (c % 8) (omega arith) ∙ ap (λ (k : ℕ). get_or row k 0) (let e : 8 * (c / 8) + c % 8 ≡ c = omega arith in e)

-- ---- a count by the sets that it makes
read_back : (r b : ℕ) → count_by (ltb 0 r || ltb 0 b) (ltb 0 b) r ≡ r
unfolding count_by
read_back r b =
    by (ltb 0 b) (λ e. rw (e, or-true (ltb 0 r)) refl)
    (λ e. by (ltb 0 r) (λ f. rw (e, f) (least_more r (λ z. let l : 0 < r = ltb-true 0 r f in let n : ⊥ = omega arith in n))) (λ f. rw (e, f) (sym (not_above r f))))

both_back : (r b : ℕ) → count_by ((ltb 0 r || ltb 0 b) && ltb 0 b) false b ≡ b
unfolding count_by
both_back r b =
    by (ltb 0 b) (λ e. rw (e, or-true (ltb 0 r)) (least_more b (λ z. let l : 0 < b = ltb-true 0 b e in let n : ⊥ = omega arith in n)))
    (λ e. by (ltb 0 r) (λ f. rw (e, f) (sym (not_above b e))) (λ f. rw (e, f) (sym (not_above b e))))

-- ---- the sets and the words of counts of all processes
unfoldable pub maps_from : List (List ℕ) → List (List ℕ) → List ℕ
maps_from reads boths = table 16 (λ p. mapped_in (get_or reads p []) ∪ mapped_in (get_or boths p []))

unfoldable pub ways_from : List (List ℕ) → List ℕ
ways_from boths = table 16 (λ p. mapped_in (get_or boths p []))

unfoldable pub counts_from : List (List ℕ) → List ℕ
counts_from rows = table 128 (λ k. packed (get_or rows (k / 8) []) (k % 8))

-- the byte of process p and container c, where the words of counts from `at` on are those of the rows
byte_held : {live : ℕ} (rows : List (List ℕ)) → Rows live rows → (w : List ℕ) (at : ℕ) → part at 128 w ≡ counts_from rows → (p c : ℕ) → p < 16 → c < 64
    → byte_of (get_or w (at + 8 * p + c / 8) 0) (c % 8) ≡ get_or (get_or rows p []) c 0
unfolding counts_from
byte_held rows r w at e p c hp hc =
    ap (λ (z : ℕ). byte_of z (c % 8))
    (ap (λ (k : ℕ). get_or w k 0) (let q : at + 8 * p + c / 8 ≡ at + (8 * p + c / 8) = omega arith in q) ∙ part_at at 128 w (8 * p + c / 8) (omega arith)
    ∙ ap (λ (l : List ℕ). get_or l (8 * p + c / 8) 0) e ∙ table_at 128 (λ k. packed (get_or rows (k / 8) []) (k % 8)) (8 * p + c / 8) 0 (omega arith)
    ∙ ap₂ (λ (i j : ℕ). packed (get_or rows i []) j) (let q : (8 * p + c / 8) / 8 ≡ p = omega arith in q) (let q : (8 * p + c / 8) % 8 ≡ c / 8 = omega arith in q))
    ∙ packed_at (get_or rows p []) c (r.row p).limit

module _ {live : ℕ} (reads boths : List (List ℕ)) (r : Rows live reads) (b : Rows live boths) (w : List ℕ) (em : part 65 16 w ≡ maps_from reads boths) (ew : part 81 16 w ≡ ways_from boths)
    (er : part 97 128 w ≡ counts_from reads) (eb : part 225 128 w ≡ counts_from boths) where
  count_r : ℕ → ℕ → ℕ
  count_r p c = get_or (get_or reads p []) c 0

  count_b : ℕ → ℕ → ℕ
  count_b p c = get_or (get_or boths p []) c 0

  maps_held : (p : ℕ) → p < 16 → (c : ℕ) → has (maps_in w p) c ≡ (ltb 0 (count_r p c) || ltb 0 (count_b p c))
  unfolding maps_in maps_from count_r count_b
  maps_held p hp c =
      ap (λ (z : ℕ). has z c) (part_at 65 16 w p hp ∙ ap (λ (l : List ℕ). get_or l p 0) em ∙ table_at 16 (λ q. mapped_in (get_or reads q []) ∪ mapped_in (get_or boths q [])) p 0 hp)
      ∙ union_has (mapped_in (get_or reads p [])) (mapped_in (get_or boths p [])) c ∙ ap₂ ◌||◌ (mapped_has (get_or reads p []) c) (mapped_has (get_or boths p []) c)

  ways_held : (p : ℕ) → p < 16 → (c : ℕ) → has (ways_in w p) c ≡ ltb 0 (count_b p c)
  unfolding ways_in ways_from count_b
  ways_held p hp c =
      ap (λ (z : ℕ). has z c) (part_at 81 16 w p hp ∙ ap (λ (l : List ℕ). get_or l p 0) ew ∙ table_at 16 (λ q. mapped_in (get_or boths q [])) p 0 hp) ∙ mapped_has (get_or boths p []) c

  read_row_back : (p : ℕ) → p < 16 → read_row w p ≡ get_or reads p []
  unfolding read_row count_r
  read_row_back p hp =
      row_is (maps_in w p) (ways_in w p) w (reads_at p) (get_or reads p []) (r.wide p hp)
      (λ c hc. rw (maps_held p hp c, ways_held p hp c, byte_held reads r w 97 er p c hp hc) (read_back (count_r p c) (count_b p c)))

  both_row_back : (p : ℕ) → p < 16 → both_row w p ≡ get_or boths p []
  unfolding both_row count_b
  both_row_back p hp =
      row_is (maps_in w p ∩ ways_in w p) 0 w (boths_at p) (get_or boths p []) (b.wide p hp)
      (λ c hc. rw (inter_has (maps_in w p) (ways_in w p) c, maps_held p hp c, ways_held p hp c, none_has c, byte_held boths b w 225 eb p c hp hc) (both_back (count_r p c) (count_b p c)))

  all_back : (row : ℕ → List ℕ) (rows : List (List ℕ)) → length rows ≡ 16 → ((p : ℕ) → p < 16 → row p ≡ get_or rows p []) → table 16 row ≡ rows
  all_back row rows e f =
      ext_get_or [] (table 16 row) rows (table_length 16 row ∙ sym e)
      (λ p h. let m : length (table 16 row) ≡ 16 = table_length 16 row in let l : p < 16 = omega arith in table_at 16 row p [] l ∙ f p l)

  pub reads_back : table 16 (read_row w) ≡ reads
  reads_back = all_back (read_row w) reads r.size read_row_back

  pub boths_back : table 16 (both_row w) ≡ boths
  boths_back = all_back (both_row w) boths b.size both_row_back

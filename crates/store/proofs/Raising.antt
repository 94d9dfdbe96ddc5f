-- One count of the words turned, and that of numbers past the tables.
use Prim.Native.Nat.{ℕ, ◌≤◌, ◌<◌}
use native.Mathlib.Omega.{arith}
use mathlib.Core.Path.{◌≡◌, sym, ap, ◌∙◌}
use mathlib.Core.Logic.{◌⊎◌, inl, inr}
use mathlib.Core.List.{List}
use lib.Dec.{leb, eqb}
use lib.ListN.{length, get_or, set, get_or-eq_default}
use lib.Seq.{set-get_or}
use borrow.Author.Tests.{leb-true, le-leb, eq-eqb, eqb-true}
use Rattle.flow.specs.Box.{Sort, to_read, both_ways, Tables, row_of, mappings}
use Rattle.flow.specs.Calls.{with_row, with_rows}
use Rattle.flow.proofs.Bools.{same}
use Rattle.store.specs.declared.counts.Cells.{Cells}
use Rattle.store.specs.Maps.{view, with_tables, reads_at, boths_at, read_row, both_row}
use Rattle.store.specs.Pairs.{cells_in, stored, read_in, both_in, Turned}
use Rattle.store.proofs.Counting.{row_length}
use Rattle.store.proofs.Writes.{row_of_words, row_viewed, row_past}
use Rattle.store.proofs.Storing.{read_alone, both_alone, reads_counted, boths_counted, turned_view}

-- ---- the row of a process has 64 counts
words_long : (x : Sort) (w : List ℕ) (p : ℕ) → length (row_of_words x w p) ≡ 64
unfolding row_of_words read_row both_row
words_long to_read w p = row_length _ _ w (reads_at p)
words_long both_ways w p = row_length _ _ w (boths_at p)

row_long : (x : Sort) (w d n : List ℕ) (p : ℕ) → p < 16 → length (row_of (view w d n).tables x p) ≡ 64
row_long x w d n p h = ap length (row_viewed x w d n p h) ∙ words_long x w p

-- past the processes and the containers nothing is mapped
pub none_past : (x : Sort) (w d n : List ℕ) (p c : ℕ) → (16 ≤ p) ⊎ ((p < 16) × (64 ≤ c)) → mappings (view w d n).tables x p c ≡ 0
unfolding mappings
none_past x w d n p c (inl h) = ap (λ (l : List ℕ). get_or l c 0) (row_past x w d n p h)
none_past x w d n p c (inr h) = get_or-eq_default (row_of (view w d n).tables x p) 0 {n = c} (omega (arith, row_long x w d n p h.0, h.1))

-- ---- one count of a pair turned, the other as it was
module _ (w d n : List ℕ) (long : length w ≡ 353) (p : ℕ) (hp : p < 16) (c : ℕ) (hc : c < 64) where
  abbrev tables : Tables
  tables = (view w d n).tables

  abbrev old : Cells
  old = cells_in w p c

  as_was : (x : Sort) → set (row_of tables x p) c (mappings tables x p c) ≡ row_of tables x p
  unfolding mappings
  as_was x = set-get_or (row_of tables x p) c 0

  pub read_turned : (y : Cells) (m : ℕ) → Turned old y c m (both_in old c) → view (stored w p c y) d n ≡ with_tables (view w d n) (with_row tables to_read p (set (row_of tables to_read p) c m))
  read_turned y m t =
      let l : List ℕ = set (row_of tables to_read p) c m in
      turned_view w d n long p hp c hc y m (both_in old c) t
      ∙ ap (with_tables (view w d n))
      (ap (with_rows tables p l) (ap (set (row_of tables both_ways p) c) (sym (boths_counted w d n long p hp c hc)) ∙ as_was both_ways) ∙ read_alone tables p l)

  pub both_turned : (y : Cells) (m : ℕ) → Turned old y c (read_in old c) m → view (stored w p c y) d n ≡ with_tables (view w d n) (with_row tables both_ways p (set (row_of tables both_ways p) c m))
  both_turned y m t =
      let l : List ℕ = set (row_of tables both_ways p) c m in
      turned_view w d n long p hp c hc y (read_in old c) m t
      ∙ ap (with_tables (view w d n))
      (ap (λ (k : List ℕ). with_rows tables p k l) (ap (set (row_of tables to_read p) c) (sym (reads_counted w d n long p hp c hc)) ∙ as_was to_read) ∙ both_alone tables p l)

-- ---- the limit, of a byte
pub limit_is : (n : ℕ) → n < 256 → eqb n 255 ≡ leb 255 n
limit_is n h =
    same (eqb n 255) (leb 255 n) (λ e. le-leb 255 n (let q : n ≡ 255 = eqb-true n 255 e in omega arith)) (λ e. eq-eqb n 255 (let q : 255 ≤ n = leb-true 255 n e in omega arith))

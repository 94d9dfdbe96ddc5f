-- The counts of mappings after a call.
use Prim.Native.Nat.{ℕ, suc, ◌-◌, ◌<◌}
use native.Mathlib.Omega.{arith}
use mathlib.Core.Path.{◌≡◌, refl, sym, ap, subst, ◌∙◌}
use mathlib.Core.Bool.{Bool, true, false, ◌&&◌, or_comm, true≢false, false≢true}
use mathlib.Core.List.{List}
use lib.Dec.{eqb}
use lib.ListN.{get_or, length, set}
use lib.Seq.{get_or-set_same, get_or-set_other}
use borrow.Author.Tests.{ltb-true, eqb-true, eqb-false}
use Rattle.flow.specs.Box.{Sort, to_read, both_ways, Tables, no_mappings, row_of, mappings, descriptor}
use Rattle.flow.specs.Calls.{Kind, start, open_name, create, pipe, device, dup, close, read, write, truncate, map_read, map_both, unmap, unlink, rename, link, fork, exit, label, kind_number, Call, is_kind, with_live, with_row, with_rows, with_descriptors, with_names, raised, lowered, sort_of, tables_by, change}
use Rattle.flow.specs.Refusals.{ranges, in_range, need_of}
use Rattle.flow.specs.Contents.{state_at}
use Rattle.flow.specs.Consequences.{is_sort, maps_it, unmaps_it, count_after, CountsAfter}
use Rattle.flow.proofs.Bools.{by, choices, and_l, and_r}
use Rattle.flow.proofs.Counts.{none_counted}
use Rattle.flow.proofs.Rows.{target_lt}
use Rattle.flow.proofs.After.{Linking}
use Rattle.flow.proofs.Mapping.{sized_of, row_other, row_same, rows_other, rows_read, rows_both, wide_of}
use Rattle.flow.proofs.Accepted.{Accepted, accepted, fits_a, process_lt, opened}
use Rattle.flow.proofs.Keeping.{state_kept}

-- counts go by the rows alone
same_counts : (t t' : Tables) → t'.reads ≡ t.reads → t'.boths ≡ t.boths → (x : Sort) (p c : ℕ) → mappings t' x p c ≡ mappings t x p c
unfolding mappings row_of
same_counts t t' e f to_read p c = rw e refl
same_counts t t' e f both_ways p c = rw f refl

-- the other sort's are as before
other_count : (t : Tables) (x y : Sort) (p : ℕ) (l : List ℕ) (q d : ℕ) → is_sort x y ≡ false → mappings (with_row t x p l) y q d ≡ mappings t y q d
unfolding mappings row_of with_row is_sort
other_count t to_read to_read p l q d e = absurd (true≢false e)
other_count t to_read both_ways p l q d e = refl
other_count t both_ways to_read p l q d e = refl
other_count t both_ways both_ways p l q d e = absurd (true≢false e)

same_sort : (x y : Sort) → is_sort x y ≡ true → x ≡ y
unfolding is_sort
same_sort to_read to_read e = refl
same_sort to_read both_ways e = absurd (false≢true e)
same_sort both_ways to_read e = absurd (false≢true e)
same_sort both_ways both_ways e = refl

-- ---- one count of the sort x set: that of process p and container c
module _ (t : Tables) (k : Linking t) (x : Sort) (p c m : ℕ) (hp : p < 16) (hc : c < 64) where
  abbrev later : Tables
  later = with_row t x p (set (row_of t x p) c m)

  own_row : (d : ℕ) → mappings later x p d ≡ elim (eqb c d) as (λ z. ℕ) [ true ↦ m | false ↦ mappings t x p d ]
  unfolding mappings
  own_row d =
      rw (row_same t (sized_of k) p hp x (set (row_of t x p) c m))
      (by (eqb c d)
      (λ f. rw (f, ← (eqb-true c d f)) (get_or-set_same (row_of t x p) c m 0 (let w : length (row_of t x p) ≡ 64 = wide_of t k p hp x in omega arith)))
      (λ f. rw f (get_or-set_other (row_of t x p) c d m 0 (λ z. eqb-false c d f (sym z)))))

  own_count : (q d : ℕ) → mappings later x q d ≡ elim (eqb p q && eqb c d) as (λ z. ℕ) [ true ↦ m | false ↦ mappings t x q d ]
  unfolding mappings
  own_count q d =
      by (eqb p q)
      (λ e. rw e (subst (λ (z : ℕ). mappings later x z d ≡ elim (eqb c d) as (λ z. ℕ) [ true ↦ m | false ↦ mappings t x z d ]) (eqb-true p q e) (own_row d)))
      (λ e. rw e (ap (λ (l : List ℕ). get_or l d 0) (row_other t x x p q (set (row_of t x p) c m) (λ z. eqb-false p q e (sym z)))))

  -- as a choice by the sort too
  pub count_set : (y : Sort) (q d : ℕ) → mappings later y q d ≡ elim (is_sort x y && (eqb p q && eqb c d)) as (λ z. ℕ) [ true ↦ m | false ↦ mappings t y q d ]
  count_set y q d =
      by (is_sort x y)
      (λ e. rw e (subst (λ (z : Sort). mappings later z q d ≡ elim (eqb p q && eqb c d) as (λ z. ℕ) [ true ↦ m | false ↦ mappings t z q d ]) (same_sort x y e) (own_count q d)))
      (λ e. rw e (other_count t x y p _ q d e))

-- where the pair is the one, the count set is that of the pair
at_pair : (p c q d : ℕ) (x y : Sort) (g : Sort → ℕ → ℕ → ℕ) (old : ℕ)
    → ◌≡◌ {A = ℕ} (elim (is_sort x y && (eqb p q && eqb c d)) as (λ z. ℕ) [ true ↦ g x p c | false ↦ old ]) (elim (is_sort x y && (eqb p q && eqb c d)) as (λ z. ℕ) [ true ↦ g y q d | false ↦ old ])
at_pair p c q d x y g old =
    choices (is_sort x y && (eqb p q && eqb c d)) (g x p c) (g y q d) old old
    (λ e. let h = and_r (is_sort x y) _ e in
    let i : x ≡ y = same_sort x y (and_l _ (eqb p q && eqb c d) e) in
    let j : p ≡ q = eqb-true p q (and_l _ (eqb c d) h) in
    let l : c ≡ d = eqb-true c d (and_r (eqb p q) _ h) in
    rw (i, j, l) refl)
    (λ e. refl)

module _ (t : Tables) (k : Linking t) (x : Sort) (p c : ℕ) (hp : p < 16) (hc : c < 64) (y : Sort) (q d : ℕ) where
  raised_count : mappings (raised t x p c) y q d ≡ elim (is_sort x y && (eqb p q && eqb c d)) as (λ z. ℕ) [ true ↦ suc (mappings t y q d) | false ↦ mappings t y q d ]
  unfolding raised
  raised_count = count_set t k x p c (suc (mappings t x p c)) hp hc y q d ∙ at_pair p c q d x y (λ z i j. suc (mappings t z i j)) (mappings t y q d)

  lowered_count : mappings (lowered t x p c) y q d ≡ elim (is_sort x y && (eqb p q && eqb c d)) as (λ z. ℕ) [ true ↦ mappings t y q d - 1 | false ↦ mappings t y q d ]
  unfolding lowered
  lowered_count = count_set t k x p c (mappings t x p c - 1) hp hc y q d ∙ at_pair p c q d x y (λ z i j. mappings t z i j - 1) (mappings t y q d)

-- both rows of process p set
rows_count : (t : Tables) (k : Linking t) (p : ℕ) → p < 16 → (l : Sort → List ℕ) (y : Sort) (q d : ℕ)
    → mappings (with_rows t p (l to_read) (l both_ways)) y q d ≡ elim (eqb p q) as (λ z. ℕ) [ true ↦ get_or (l y) d 0 | false ↦ mappings t y q d ]
unfolding mappings
rows_count t k p hp l y q d =
    by (eqb p q)
    (λ e. rw e (subst (λ (z : ℕ). get_or (row_of (with_rows t p (l to_read) (l both_ways)) y z) d 0 ≡ get_or (l y) d 0) (eqb-true p q e) (ap (λ (r : List ℕ). get_or r d 0) (own y))))
    (λ e. rw e (ap (λ (r : List ℕ). get_or r d 0) (rows_other t y p q _ _ (λ z. eqb-false p q e (sym z)))))
  where
    own : (y : Sort) → row_of (with_rows t p (l to_read) (l both_ways)) y p ≡ l y
    own to_read = rows_read t (sized_of k) p hp _ _
    own both_ways = rows_both t (sized_of k) p hp _ _

-- ---- by kind
module _ (t : Tables) (k : Linking t) (p a b c : ℕ) (y : Sort) (q d : ℕ) where
  abbrev call : Kind → Call
  call kind = record { kind = kind; process = p; a = a; b = b; c = c }

  counts_by : (kind : Kind) → Accepted t (call kind) → mappings (tables_by t p a b c kind) y q d ≡ count_after t (call kind) y q d
  unfolding count_after maps_it unmaps_it is_kind kind_number tables_by with_live with_descriptors with_names ranges in_range need_of mappings
  counts_by start h = same_counts t _ refl refl y q d
  counts_by open_name h = same_counts t _ refl refl y q d
  counts_by create h = same_counts t _ refl refl y q d
  counts_by pipe h = same_counts t _ refl refl y q d
  counts_by device h = same_counts t _ refl refl y q d
  counts_by dup h = same_counts t _ refl refl y q d
  counts_by close h = same_counts t _ refl refl y q d
  counts_by read h = refl
  counts_by write h = refl
  counts_by truncate h = refl
  counts_by map_read h =
      raised_count t k to_read p (descriptor t p a) (process_lt t k p a b c map_read refl h) (target_lt _ (opened t k p a b c map_read refl h)) y q d
      ∙ ap (λ (z : Bool). elim (z && (eqb p q && eqb (descriptor t p a) d)) as (λ z. ℕ) [ true ↦ suc (mappings t y q d) | false ↦ mappings t y q d ]) (sym (or_comm (is_sort to_read y) false))
  counts_by map_both h = raised_count t k both_ways p (descriptor t p a) (process_lt t k p a b c map_both refl h) (target_lt _ (opened t k p a b c map_both refl h)) y q d
  counts_by unmap h = lowered_count t k (sort_of b) p a (process_lt t k p a b c unmap refl h) (ltb-true a 64 (fits_a (ranges unmap) (call unmap) h.fits)) y q d
  counts_by unlink h = same_counts t _ refl refl y q d
  counts_by rename h = same_counts t _ refl refl y q d
  counts_by link h = same_counts t _ refl refl y q d
  counts_by fork h =
      same_counts (with_rows t a (row_of t to_read p) (row_of t both_ways p)) _ refl refl y q d
      ∙ rows_count t k a (ltb-true a 16 (fits_a (ranges fork) (call fork) h.fits)) (λ z. row_of t z p) y q d
  counts_by exit h =
      same_counts (with_rows t p no_mappings no_mappings) _ refl refl y q d ∙ rows_count t k p (process_lt t k p a b c exit refl h) (λ z. no_mappings) y q d
      ∙ ap (λ (n : ℕ). elim (eqb p q) as (λ z. ℕ) [ true ↦ n | false ↦ mappings t y q d ]) (none_counted d)
  counts_by label h = refl

pub counts_after : CountsAfter
unfolding CountsAfter change
counts_after steps n q h y p c = let t = (state_at steps n).tables in counts_by t (state_kept steps n).linking q.process q.a q.b q.c y p c q.kind (accepted t q h)

-- What the table of calls makes of the mappings: the rows, and the links that they stand for.
use Prim.Native.Nat.{ℕ, ◌-◌, ◌<◌}
use native.Mathlib.Omega.{arith}
use native.Mathlib.Decide.{ℕ_discrete}
use mathlib.Core.Path.{◌≡◌, refl, sym, ap, ap₂, ◌∙◌}
use mathlib.Core.Bool.{true, ◌||◌}
use mathlib.Core.List.{List, []}
use lib.Dec.{ltb}
use lib.ListN.{length, length-set}
use lib.Seq.{get_or-set_same, get_or-set_other}
use borrow.Author.Tests.{lt-ltb}
use Rattle.sets.specs.Sets.{has, ◌∪◌}
use Rattle.sets.proofs.Members.{union_has}
use Rattle.flow.specs.Box.{container_of, is_target, Sort, to_read, both_ways, Tables, no_mappings, row_of, mappings, mapped_in, feeders_of, feeds}
use Rattle.flow.specs.Links.{linked}
use Rattle.flow.specs.Calls.{with_row, with_rows, raised, lowered}
use Rattle.flow.proofs.Bools.{or_elim, or_l, or_r, no_both}
use Rattle.flow.proofs.Counts.{mapped_has, none_mapped, raised_in, lowered_in, raised_keeps, set_keeps, Counts, counts_set, counts_lowered}
use Rattle.flow.proofs.Rows.{rows_set}
use Rattle.flow.proofs.Reach.{link_cases, link_in, link_out}
use Rattle.flow.proofs.After.{Linking}

-- the links of a process, by its counts
module _ (t : Tables) (p c : ℕ) where
  pub fed_by_count : has (feeds t p) c ≡ ltb 0 (mappings t both_ways p c)
  unfolding feeds mappings
  fed_by_count = mapped_has (row_of t both_ways p) c

  pub feeder_by_count : has (feeders_of t p) c ≡ (ltb 0 (mappings t to_read p c) || ltb 0 (mappings t both_ways p c))
  unfolding feeders_of mappings
  feeder_by_count = union_has _ _ c ∙ ap₂ ◌||◌ (mapped_has (row_of t to_read p) c) (mapped_has (row_of t both_ways p) c)

-- a count above 0, of either sort, is a link
pub counted_mapped : (t : Tables) (x : Sort) (p c : ℕ) → (mappings t x p c ≡ 0 → ⊥) → (has (feeders_of t p) c || has (feeds t p) c) ≡ true
counted_mapped t to_read p c h =
    or_l _ (has (feeds t p) c) (feeder_by_count t p c ∙ or_l _ (ltb 0 (mappings t both_ways p c)) (lt-ltb 0 (mappings t to_read p c) (omega (arith, h))))
counted_mapped t both_ways p c h = or_r (has (feeders_of t p) c) _ (fed_by_count t p c ∙ lt-ltb 0 (mappings t both_ways p c) (omega (arith, h)))

-- ---- the rows once one is set
pub row_other : (s : Tables) (x y : Sort) (p q : ℕ) (l : List ℕ) → (q ≡ p → ⊥) → row_of (with_row s x p l) y q ≡ row_of s y q
unfolding row_of with_row
row_other s to_read to_read p q l d = get_or-set_other s.reads p q l [] d
row_other s to_read both_ways p q l d = refl
row_other s both_ways to_read p q l d = refl
row_other s both_ways both_ways p q l d = get_or-set_other s.boths p q l [] d

pub raised_other : (s : Tables) (x y : Sort) (p c q : ℕ) → (q ≡ p → ⊥) → row_of (raised s x p c) y q ≡ row_of s y q
unfolding raised
raised_other s x y p c q n = row_other s x y p q _ n

pub lowered_other : (s : Tables) (x y : Sort) (p c q : ℕ) → (q ≡ p → ⊥) → row_of (lowered s x p c) y q ≡ row_of s y q
unfolding lowered
lowered_other s x y p c q n = row_other s x y p q _ n

pub rows_other : (s : Tables) (y : Sort) (p q : ℕ) (l m : List ℕ) → (q ≡ p → ⊥) → row_of (with_rows s p l m) y q ≡ row_of s y q
unfolding with_rows
rows_other s y p q l m d = row_other (with_row s to_read p l) both_ways y p q m d ∙ row_other s to_read y p q l d

-- a row for each process, of either sort
pub record Sized (s : Tables) : Type 0 where
  pub reads : length s.reads ≡ 16
  pub boths : length s.boths ≡ 16

pub sized_of : {s : Tables} → Linking s → Sized s
sized_of k = record { reads = k.reads.size; boths = k.boths.size }

module _ (s : Tables) (k : Sized s) (p : ℕ) (hp : p < 16) where
  pub row_same : (x : Sort) (l : List ℕ) → row_of (with_row s x p l) x p ≡ l
  unfolding row_of with_row
  row_same to_read l = get_or-set_same s.reads p l [] (omega (arith, k.reads))
  row_same both_ways l = get_or-set_same s.boths p l [] (omega (arith, k.boths))

  pub rows_read : (l m : List ℕ) → row_of (with_rows s p l m) to_read p ≡ l
  unfolding with_rows row_of with_row
  rows_read l m = get_or-set_same s.reads p l [] (omega (arith, k.reads))

  pub rows_both : (l m : List ℕ) → row_of (with_rows s p l m) both_ways p ≡ m
  unfolding with_rows row_of with_row
  rows_both l m = get_or-set_same s.boths p m [] (omega (arith, k.boths))

  -- what the process maps it maps still once a count is raised, and but for c once that of c is set
  row_kept : (x : Sort) (l : List ℕ) (d : ℕ) → (has (mapped_in (row_of s x p)) d ≡ true → has (mapped_in l) d ≡ true) → (y : Sort) → has (mapped_in (row_of s y p)) d ≡ true → has (mapped_in (row_of (with_row s x p l) y p)) d ≡ true
  unfolding row_of with_row
  row_kept to_read l d f to_read h = rw (get_or-set_same s.reads p l [] (omega (arith, k.reads))) (f h)
  row_kept to_read l d f both_ways h = h
  row_kept both_ways l d f to_read h = h
  row_kept both_ways l d f both_ways h = rw (get_or-set_same s.boths p l [] (omega (arith, k.boths))) (f h)

  pub raised_kept : (x y : Sort) (c d : ℕ) → has (mapped_in (row_of s y p)) d ≡ true → has (mapped_in (row_of (raised s x p c) y p)) d ≡ true
  unfolding raised
  raised_kept x y c d = row_kept x _ d (raised_keeps (row_of s x p) c (mappings s x p c) d) y

  pub lowered_kept : (x y : Sort) (c d : ℕ) → (d ≡ c → ⊥) → has (mapped_in (row_of s y p)) d ≡ true → has (mapped_in (row_of (lowered s x p c) y p)) d ≡ true
  unfolding lowered
  lowered_kept x y c d e = row_kept x _ d (set_keeps (row_of s x p) c (mappings s x p c - 1) d e) y

-- what every row keeps
pub counts_of : (s : Tables) → Linking s → (p : ℕ) (x : Sort) → Counts s.live p (row_of s x p)
unfolding row_of
counts_of s k p to_read = k.reads.row p
counts_of s k p both_ways = k.boths.row p

module _ (s : Tables) (k : Linking s) (p : ℕ) (hp : p < 16) where
  pub wide_of : (x : Sort) → length (row_of s x p) ≡ 64
  unfolding row_of
  wide_of to_read = k.reads.wide p hp
  wide_of both_ways = k.boths.wide p hp

  linking_row : (x : Sort) (l : List ℕ) → length l ≡ 64 → Counts s.live p l → Linking (with_row s x p l)
  unfolding with_row
  linking_row to_read l w r = record { reads = rows_set s.live s.live s.reads p l hp (λ q m n h. h) w r k.reads; boths = k.boths }
  linking_row both_ways l w r = record { reads = k.reads; boths = rows_set s.live s.live s.boths p l hp (λ q m n h. h) w r k.boths }

  pub linking_raised : (x : Sort) (c : ℕ) → is_target c ≡ true → has s.live p ≡ true → mappings s x p c < 255 → Linking (raised s x p c)
  unfolding raised mappings
  linking_raised x c t v l = linking_row x _ (length-set (row_of s x p) c _ ∙ wide_of x) (counts_set s.live p (row_of s x p) c _ l (λ h. (t, v)) (counts_of s k p x))

  pub linking_lowered : (x : Sort) (c : ℕ) → Linking (lowered s x p c)
  unfolding lowered mappings
  linking_lowered x c = linking_row x _ (length-set (row_of s x p) c _ ∙ wide_of x) (counts_lowered s.live p (row_of s x p) c (counts_of s k p x))

  -- ---- members of the two sets of the process
  either : (t : Tables) (u : ℕ) {P : Type 0} → (has (mapped_in (row_of t to_read p)) u ≡ true → P) → (has (mapped_in (row_of t both_ways p)) u ≡ true → P) → has (feeders_of t p) u ≡ true → P
  unfolding feeders_of
  either t u f g h = or_elim _ _ f g (sym (union_has (mapped_in (row_of t to_read p)) (mapped_in (row_of t both_ways p)) u) ∙ h)

  by_read : (u : ℕ) → has (mapped_in (row_of s to_read p)) u ≡ true → has (feeders_of s p) u ≡ true
  unfolding feeders_of
  by_read u h = union_has _ (mapped_in (row_of s both_ways p)) u ∙ or_l _ _ h

  by_both : (u : ℕ) → has (feeds s p) u ≡ true → has (feeders_of s p) u ≡ true
  unfolding feeders_of feeds
  by_both u h = union_has (mapped_in (row_of s to_read p)) _ u ∙ or_r (has (mapped_in (row_of s to_read p)) u) _ h

  row_raised : (x : Sort) (c d : ℕ) {P : Type 0} → (has (mapped_in (row_of s x p)) d ≡ true → P) → (d ≡ c → P) → has (mapped_in (row_of (raised s x p c) x p)) d ≡ true → P
  unfolding raised
  row_raised x c d f g h = raised_in (row_of s x p) c _ d f g (rw (row_same s (sized_of k) p hp x _) at h)

  row_lowered : (x : Sort) (c d : ℕ) {P : Type 0} → (has (mapped_in (row_of s x p)) d ≡ true → P) → has (mapped_in (row_of (lowered s x p c) x p)) d ≡ true → P
  unfolding lowered mappings
  row_lowered x c d f h = lowered_in (row_of s x p) c d f (rw (row_same s (sized_of k) p hp x _) at h)

  pub in_raised : (x : Sort) (c u : ℕ) {P : Type 0} → (has (feeders_of s p) u ≡ true → P) → (u ≡ c → P) → has (feeders_of (raised s x p c) p) u ≡ true → P
  unfolding feeds row_of with_row raised
  in_raised to_read c u f g = either (raised s to_read p c) u (row_raised to_read c u (λ m. f (by_read u m)) g) (λ m. f (by_both u m))
  in_raised both_ways c u f g = either (raised s both_ways p c) u (λ m. f (by_read u m)) (row_raised both_ways c u (λ m. f (by_both u m)) g)

  pub out_raised : (c v : ℕ) {P : Type 0} → (has (feeds s p) v ≡ true → P) → (v ≡ c → P) → has (feeds (raised s both_ways p c) p) v ≡ true → P
  unfolding feeds
  out_raised c v f g = row_raised both_ways c v f g

  pub in_lowered : (x : Sort) (c u : ℕ) → has (feeders_of (lowered s x p c) p) u ≡ true → has (feeders_of s p) u ≡ true
  unfolding feeds row_of with_row lowered
  in_lowered to_read c u = either (lowered s to_read p c) u (row_lowered to_read c u (by_read u)) (by_both u)
  in_lowered both_ways c u = either (lowered s both_ways p c) u (by_read u) (row_lowered both_ways c u (by_both u))

  pub out_lowered : (x : Sort) (c v : ℕ) → has (feeds (lowered s x p c) p) v ≡ true → has (feeds s p) v ≡ true
  unfolding feeds row_of with_row lowered
  out_lowered to_read c v h = h
  out_lowered both_ways c v h = row_lowered both_ways c v (λ m. m) h

  pub in_none : (u : ℕ) {P : Type 0} → has (feeders_of (with_rows s p no_mappings no_mappings) p) u ≡ true → P
  in_none u = either (with_rows s p no_mappings no_mappings) u (λ h. no_both (rw (rows_read s (sized_of k) p hp _ _) at h) (none_mapped u)) (λ h. no_both (rw (rows_both s (sized_of k) p hp _ _) at h) (none_mapped u))

  pub out_none : (v : ℕ) {P : Type 0} → has (feeds (with_rows s p no_mappings no_mappings) p) v ≡ true → P
  unfolding feeds
  out_none v h = no_both (rw (rows_both s (sized_of k) p hp _ _) at h) (none_mapped v)

-- the child of a fork has the sets of its parent
module _ (s : Tables) (k : Linking s) (p a : ℕ) (hp : p < 16) (ha : a < 16) where
  abbrev child : Tables
  child = with_rows s a (row_of s to_read p) (row_of s both_ways p)

  pub child_row : (x : Sort) → row_of child x a ≡ row_of s x p
  child_row to_read = rows_read s (sized_of k) a ha _ _
  child_row both_ways = rows_both s (sized_of k) a ha _ _

  pub child_in : feeders_of child a ≡ feeders_of s p
  unfolding feeders_of
  child_in = ap₂ (λ (x y : List ℕ). mapped_in x ∪ mapped_in y) (child_row to_read) (child_row both_ways)

  pub child_out : feeds child a ≡ feeds s p
  unfolding feeds
  child_out = ap mapped_in (child_row both_ways)

-- ---- the links once the rows of process p are set
module _ (s t : Tables) (p : ℕ) (apart : (y : Sort) (q : ℕ) → (q ≡ p → ⊥) → row_of t y q ≡ row_of s y q) where
  same_in : (q : ℕ) → (q ≡ p → ⊥) → feeders_of t q ≡ feeders_of s q
  unfolding feeders_of
  same_in q d = ap₂ (λ (a b : List ℕ). mapped_in a ∪ mapped_in b) (apart to_read q d) (apart both_ways q d)

  same_out : (q : ℕ) → (q ≡ p → ⊥) → feeds t q ≡ feeds s q
  unfolding feeds
  same_out q d = ap mapped_in (apart both_ways q d)

  pub relinked : (u v : ℕ) {P : Type 0}
      → ((q : ℕ) → q < 16 → (q ≡ p → ⊥) → v ≡ container_of q → has (feeders_of s q) u ≡ true → P) → (v ≡ container_of p → has (feeders_of t p) u ≡ true → P)
      → ((q : ℕ) → q < 16 → (q ≡ p → ⊥) → u ≡ container_of q → has (feeds s q) v ≡ true → P) → (u ≡ container_of p → has (feeds t p) v ≡ true → P)
      → linked t u v ≡ true → P
  relinked u v {P} f f' g g' l =
      link_cases t u v
      (λ q hq e h. by_process q (λ d. f' (rw d at e) (rw d at h)) (λ d. f q hq d e (rw (same_in q d) at h)))
      (λ q hq e h. by_process q (λ d. g' (rw d at e) (rw d at h)) (λ d. g q hq d e (rw (same_out q d) at h)))
      l
    where
      by_process : (q : ℕ) → (q ≡ p → P) → ((q ≡ p → ⊥) → P) → P
      by_process q f g = go (ℕ_discrete q p)
        where
          go : Dec (q ≡ p) → P
          go (yes d) = f d
          go (no d) = g d

  -- a link that was there, or one of the process
  pub link_kept : (u v : ℕ) {P : Type 0} → (linked s u v ≡ true → P) → (v ≡ container_of p → has (feeders_of t p) u ≡ true → P) → (u ≡ container_of p → has (feeds t p) v ≡ true → P)
      → linked t u v ≡ true → P
  link_kept u v f f' g' l =
      relinked u v (λ q hq d e h. f (rw e (link_in s q hq u h))) f' (λ q hq d e h. f (rw e (link_out s q hq v h))) g' l

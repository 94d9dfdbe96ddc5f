-- The mappings of the processes: sixteen rows of counts of each sort, and the sets of containers that they stand for.
use Prim.Native.Nat.{ℕ, ◌^◌, ◌≤◌, ◌<◌}
use native.Mathlib.Omega.{arith}
use native.Mathlib.Decide.{ℕ_discrete, dec_lt}
use mathlib.Core.Path.{◌≡◌, refl, sym, ap, ◌∙◌}
use mathlib.Core.Bool.{true, not, ◌&&◌}
use mathlib.Core.List.{List, []}
use lib.Dec.{ltb, leb}
use lib.ListN.{get_or, length, set, length-set, get_or-eq_default}
use lib.Seq.{get_or-set_same, get_or-set_other}
use lib.Pow.{pow_mono}
use borrow.Author.Tests.{ltb-true, leb-true, eq-eqb, ne_eqb}
use Rattle.sets.specs.Sets.{has, only, without, ◌∪◌}
use Rattle.sets.proofs.Members.{union_has, only_has, union_lt, without_has}
use Rattle.flow.specs.Box.{is_device, is_file, is_target, mapped_in}
use Rattle.flow.proofs.Bools.{or_elim, or_l, or_r, and_l, and_r, and_i}
use Rattle.flow.proofs.Counts.{mapped_lt, mapped_above, set_at, Counts, counts_nil, counts_live}

-- where an entry leads is below 64 and no process
pub target_lt : (e : ℕ) → is_target e ≡ true → e < 64
unfolding is_target is_device is_file
target_lt e h = or_elim (ltb e 8) (leb 24 e && ltb e 64) (λ a. let l : e < 8 = ltb-true e 8 a in omega arith) (λ a. ltb-true e 64 (and_r (leb 24 e) _ a)) h

pub target_not : (e : ℕ) → is_target e ≡ true → 8 ≤ e → e < 24 → ⊥
unfolding is_target is_device is_file
target_not e h a b =
    or_elim (ltb e 8) (leb 24 e && ltb e 64)
    (λ f. let l : e < 8 = ltb-true e 8 f in let z : ⊥ = omega arith in z)
    (λ f. let l : 24 ≤ e = leb-true 24 e (and_l _ (ltb e 64) f) in let z : ⊥ = omega arith in z) h

-- the set x of containers that process p maps
pub record Row (live p x : ℕ) : Type 0 where
  pub fits : x < 2 ^ 64
  pub maps : (c : ℕ) → has x c ≡ true → is_target c ≡ true
  pub lives : (c : ℕ) → has x c ≡ true → has live p ≡ true

-- that of a row of counts, and both of a process together
pub row_of_lem : {live p : ℕ} {row : List ℕ} → Counts live p row → Row live p (mapped_in row)
row_of_lem {live} {p} {row} k =
    record {
      fits = let m : 2 ^ length row ≤ 2 ^ 64 = pow_mono k.size in let l : mapped_in row < 2 ^ length row = mapped_lt row in omega arith;
      maps = λ c h. k.maps c (mapped_above row c h);
      lives = λ c h. k.lives c (mapped_above row c h);
    }

pub row_union : {live p x y : ℕ} → Row live p x → Row live p y → Row live p (x ∪ y)
row_union {live} {p} {x} {y} r k =
    record {
      fits = union_lt x y r.fits k.fits;
      maps = λ c h. or_elim (has x c) (has y c) (r.maps c) (k.maps c) (sym (union_has x y c) ∙ h);
      lives = λ c h. or_elim (has x c) (has y c) (r.lives c) (k.lives c) (sym (union_has x y c) ∙ h);
    }

-- ---- a row of counts for each process
pub record Rows (live : ℕ) (rows : List (List ℕ)) : Type 0 where
  pub size : length rows ≡ 16
  pub wide : (p : ℕ) → p < 16 → length (get_or rows p []) ≡ 64
  pub row : (p : ℕ) → Counts live p (get_or rows p [])

-- the rows with that of process p set, where live says of every other process the same as before
pub rows_set : (live live' : ℕ) (rows : List (List ℕ)) (p : ℕ) (l : List ℕ) → p < 16 → ((q : ℕ) → q < 16 → (q ≡ p → ⊥) → has live q ≡ true → has live' q ≡ true)
    → length l ≡ 64 → Counts live' p l → Rows live rows → Rows live' (set rows p l)
rows_set live live' rows p l h f w r k =
    record {
      size = length-set rows p l ∙ k.size;
      wide = λ q hq. set_at rows p l q [] (λ y. length y ≡ 64) (λ d. w) (k.wide q hq);
      row = λ q. one q (ℕ_discrete q p) (dec_lt q 16);
    }
  where
    one : (q : ℕ) → Dec (q ≡ p) → Dec (q < 16) → Counts live' q (get_or (set rows p l) q [])
    one q (yes d) m = rw (d, get_or-set_same rows p l [] (omega (arith, k.size))) r
    one q (no d) (yes m) = rw (get_or-set_other rows p q l [] d) (counts_live live live' q q _ (f q m d) (k.row q))
    one q (no d) (no m) = rw (get_or-set_other rows p q l [] d, get_or-eq_default rows [] {n = q} (omega (arith, k.size))) (counts_nil live' q)

-- the rows as they are, with more live
pub rows_more : (live live' : ℕ) (rows : List (List ℕ)) → ((q : ℕ) → has live q ≡ true → has live' q ≡ true) → Rows live rows → Rows live' rows
rows_more live live' rows f k = record { size = k.size; wide = k.wide; row = λ q. counts_live live live' q q _ (f q) (k.row q) }

pub more_live : (live p q : ℕ) → has live q ≡ true → has (live ∪ only p) q ≡ true
more_live live p q h = union_has live (only p) q ∙ or_l _ _ h

pub now_live : (live p : ℕ) → has (live ∪ only p) p ≡ true
now_live live p = union_has live (only p) p ∙ or_r (has live p) _ (only_has p p ∙ eq-eqb p p refl)

pub still_live : (live p q : ℕ) → q < 16 → (q ≡ p → ⊥) → has live q ≡ true → has (without live p) q ≡ true
still_live live p q l n h = without_has live p q (omega arith) ∙ and_i (has live q) _ h (ap not (ne_eqb q p n))

-- Rows of counts of mappings: the sets that they stand for, and what the table of calls makes of them.
use Prim.Native.Nat.{ℕ, zero, suc, ◌+◌, ◌-◌, ◌*◌, ◌^◌, ◌≤◌, ◌<◌}
use native.Mathlib.Omega.{arith}
use native.Mathlib.Decide.{ℕ_discrete, dec_lt}
use mathlib.Core.Path.{◌≡◌, refl, sym, ap, ◌∙◌}
use mathlib.Core.Bool.{Bool, true, false}
use mathlib.Core.List.{List, [], ◌∷◌}
use lib.Dec.{ltb}
use lib.ListN.{get_or, length, set, replicate, length-set, length-replicate}
use lib.Seq.{get_or-set_same, get_or-set_other, set_out}
use borrow.Author.Tests.{ltb-true, lt-ltb}
use Rattle.sets.specs.Sets.{has, bit}
use Rattle.sets.proofs.Members.{made_zero, made_suc, none_has}
use Rattle.flow.specs.Box.{is_target, no_mappings, mapped_in}

-- ---- the set of a row
pub mapped_has : (row : List ℕ) (c : ℕ) → has (mapped_in row) c ≡ ltb 0 (get_or row c 0)
unfolding mapped_in
mapped_has [] c = none_has c
mapped_has (n ∷ row) zero = made_zero (ltb 0 n) (mapped_in row) refl
mapped_has (n ∷ row) (suc c) = made_suc (ltb 0 n) (mapped_in row) refl c ∙ mapped_has row c

pub mapped_lt : (row : List ℕ) → mapped_in row < 2 ^ length row
unfolding mapped_in bit
mapped_lt [] = omega arith
mapped_lt (n ∷ row) = go (ltb 0 n) (mapped_lt row)
  where
    go : (b : Bool) → mapped_in row < 2 ^ length row → bit b + 2 * mapped_in row < 2 ^ suc (length row)
    go true h = omega arith
    go false h = omega arith

-- a member has a count above 0
pub mapped_above : (row : List ℕ) (c : ℕ) → has (mapped_in row) c ≡ true → 0 < get_or row c 0
mapped_above row c h = ltb-true 0 (get_or row c 0) (sym (mapped_has row c) ∙ h)

pub above_mapped : (row : List ℕ) (c : ℕ) → 0 < get_or row c 0 → has (mapped_in row) c ≡ true
above_mapped row c h = mapped_has row c ∙ lt-ltb 0 (get_or row c 0) h

-- ---- no mappings
pub zeros : (n k : ℕ) → ◌≡◌ {A = ℕ} (get_or (replicate n 0) k 0) 0
zeros zero k = refl
zeros (suc n) zero = refl
zeros (suc n) (suc k) = zeros n k

pub none_counted : (c : ℕ) → get_or no_mappings c 0 ≡ 0
unfolding no_mappings
none_counted c = zeros 64 c

pub none_mapped : (c : ℕ) → has (mapped_in no_mappings) c ≡ false
none_mapped c = mapped_has no_mappings c ∙ ap (λ (n : ℕ). ltb 0 n) (none_counted c)

-- ---- one count set
pub set_at : {A : Type 0} (l : List A) (i : ℕ) (a : A) (k : ℕ) (d : A) (P : A → Type 0) → (k ≡ i → P a) → P (get_or l k d) → P (get_or (set l i a) k d)
set_at {A} l i a k d P f g = go (ℕ_discrete k i) (dec_lt i (length l))
  where
    go : Dec (k ≡ i) → Dec (i < length l) → P (get_or (set l i a) k d)
    go (yes e) (yes m) = rw (e, get_or-set_same l i a d m) (f e)
    go (yes e) (no m) = rw (set_out l i a (omega arith)) g
    go (no e) m = rw (get_or-set_other l i k a d e) g

-- a member of a row with one count raised was there, or is the one raised; of a row with one lowered it was there
pub raised_in : (row : List ℕ) (c n d : ℕ) {P : Type 0} → (has (mapped_in row) d ≡ true → P) → (d ≡ c → P) → has (mapped_in (set row c n)) d ≡ true → P
raised_in row c n d {P} f g h =
    set_at row c n d 0 (λ z. 0 < z → P) (λ e z. g e) (λ z. f (above_mapped row d z)) (mapped_above (set row c n) d h)

pub lowered_in : (row : List ℕ) (c d : ℕ) {P : Type 0} → (has (mapped_in row) d ≡ true → P) → has (mapped_in (set row c (get_or row c 0 - 1))) d ≡ true → P
lowered_in row c d {P} f h =
    set_at row c (get_or row c 0 - 1) d 0 (λ z. 0 < z → P)
    (λ e z. f (above_mapped row d (rw e (let m : 0 < get_or row c 0 = omega arith in m)))) (λ z. f (above_mapped row d z))
    (mapped_above (set row c (get_or row c 0 - 1)) d h)

-- a member is one still once a count is raised, and once that of another is set
pub raised_keeps : (row : List ℕ) (c n d : ℕ) → has (mapped_in row) d ≡ true → has (mapped_in (set row c (suc n))) d ≡ true
raised_keeps row c n d h =
    above_mapped (set row c (suc n)) d (set_at row c (suc n) d 0 (λ z. 0 < z) (λ e. omega arith) (mapped_above row d h))

pub set_keeps : (row : List ℕ) (c n d : ℕ) → (d ≡ c → ⊥) → has (mapped_in row) d ≡ true → has (mapped_in (set row c n)) d ≡ true
set_keeps row c n d e h = above_mapped (set row c n) d (set_at row c n d 0 (λ z. 0 < z) (λ q. absurd (e q)) (mapped_above row d h))

-- ---- what every row keeps: process p is live where it maps something, and maps devices, files and pipes
pub record Counts (live p : ℕ) (row : List ℕ) : Type 0 where
  pub size : length row ≤ 64
  pub limit : (c : ℕ) → get_or row c 0 ≤ 255
  pub maps : (c : ℕ) → 0 < get_or row c 0 → is_target c ≡ true
  pub lives : (c : ℕ) → 0 < get_or row c 0 → has live p ≡ true

empty_counts : (live p : ℕ) (row : List ℕ) → length row ≤ 64 → ((c : ℕ) → get_or row c 0 ≡ 0) → Counts live p row
empty_counts live p row s z =
    record {
      size = s;
      limit = λ c. let e : get_or row c 0 ≡ 0 = z c in omega arith;
      maps = λ c h. absurd (let e : get_or row c 0 ≡ 0 = z c in let y : ⊥ = omega arith in y);
      lives = λ c h. absurd (let e : get_or row c 0 ≡ 0 = z c in let y : ⊥ = omega arith in y);
    }

pub none_length : length no_mappings ≡ 64
unfolding no_mappings
none_length = length-replicate {A = ℕ} 64 0

pub counts_none : (live p : ℕ) → Counts live p no_mappings
counts_none live p = empty_counts live p no_mappings (let e : length no_mappings ≡ 64 = none_length in omega arith) none_counted

pub counts_nil : (live p : ℕ) → Counts live p []
counts_nil live p = empty_counts live p [] (omega arith) (λ c. refl)

pub counts_set : (live p : ℕ) (row : List ℕ) (c n : ℕ) → n ≤ 255 → (0 < n → (is_target c ≡ true) × (has live p ≡ true)) → Counts live p row → Counts live p (set row c n)
counts_set live p row c n l f k =
    record {
      size = let e : length (set row c n) ≡ length row = length-set row c n in omega (arith, k.size);
      limit = λ d. set_at row c n d 0 (λ z. z ≤ 255) (λ e. l) (k.limit d);
      maps = λ d. set_at row c n d 0 (λ z. 0 < z → is_target d ≡ true) (λ e h. rw e (f h).0) (k.maps d);
      lives = λ d. set_at row c n d 0 (λ z. 0 < z → has live p ≡ true) (λ e h. (f h).1) (k.lives d);
    }

pub counts_lowered : (live p : ℕ) (row : List ℕ) (c : ℕ) → Counts live p row → Counts live p (set row c (get_or row c 0 - 1))
counts_lowered live p row c k =
    let l : get_or row c 0 ≤ 255 = k.limit c in
    counts_set live p row c (get_or row c 0 - 1) (omega arith) (λ h. let m : 0 < get_or row c 0 = omega arith in (k.maps c m, k.lives c m)) k

pub counts_live : (live live' p q : ℕ) (row : List ℕ) → (has live p ≡ true → has live' q ≡ true) → Counts live p row → Counts live' q row
counts_live live live' p q row f k = record { size = k.size; limit = k.limit; maps = k.maps; lives = λ c h. f (k.lives c h) }

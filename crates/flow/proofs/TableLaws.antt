-- Laws of lists made from a function, of lists with one element set, and of lists of tests.
use Prim.Native.Nat.{ℕ, zero, suc, ◌+◌, ◌≤◌, ◌<◌}
use native.Mathlib.Omega.{arith}
use native.Mathlib.Nat.{not-suc-le-zero, le_of_suc-le-suc}
use native.Mathlib.Decide.{ℕ_discrete, dec_lt}
use mathlib.Core.Path.{◌≡◌, refl, sym, ap, ap₂, ◌∙◌}
use mathlib.Core.Bool.{Bool, true, false, ◌||◌, or_comm}
use mathlib.Core.List.{List, [], ◌∷◌, ◌++◌}
use mathlib.Core.Option.{Option, none, some}
use lib.Dec.{ltb, eqb}
use lib.ListN.{get_or, length, set}
use lib.Seq.{get_or-set_same, get_or-set_other, set_out, ext_get_or}
use borrow.Author.Tests.{ltb-true, ltb-false, eq-eqb, eqb-true}
use Rattle.flow.specs.Lists.{table_from, table, some_below, is_in, Test, ◌⇒◌, first_that, is_none}
use Rattle.flow.proofs.Bools.{or_elim, or_l, or_r, by, no_both, choice, or_choice}

table_from_at : {A : Type 0} (n k : ℕ) (f : ℕ → A) (i : ℕ) (d : A) → i < n → get_or (table_from n k f) i d ≡ f (k + i)
unfolding table_from
table_from_at zero k f i d h = absurd (not-suc-le-zero h)
table_from_at (suc n) k f zero d h = ap f (omega arith)
table_from_at (suc n) k f (suc i) d h = table_from_at n (suc k) f i d (le_of_suc-le-suc h) ∙ ap f (omega arith)

pub table_at : {A : Type 0} (n : ℕ) (f : ℕ → A) (i : ℕ) (d : A) → i < n → get_or (table n f) i d ≡ f i
unfolding table
table_at n f i d h = table_from_at n 0 f i d h ∙ ap f (omega arith)

-- ---- some and none below n
table_from_length : {A : Type 0} (n k : ℕ) (f : ℕ → A) → length (table_from n k f) ≡ n
unfolding table_from
table_from_length zero k f = refl
table_from_length (suc n) k f = ap suc (table_from_length n (suc k) f)

pub table_length : {A : Type 0} (n : ℕ) (f : ℕ → A) → length (table n f) ≡ n
unfolding table
table_length n f = table_from_length n 0 f

-- a list of n elements is the table of them
pub is_table : (n : ℕ) (f : ℕ → ℕ) (l : List ℕ) → length l ≡ n → ((i : ℕ) → i < n → get_or l i 0 ≡ f i) → l ≡ table n f
is_table n f l e h = ext_get_or 0 l (table n f) (e ∙ sym (table_length n f)) (λ i b. let m : i < n = omega arith in h i m ∙ sym (table_at n f i 0 m))

pub some_of_lem : (n : ℕ) (f : ℕ → Bool) (i : ℕ) → i < n → f i ≡ true → some_below n f ≡ true
unfolding some_below
some_of_lem zero f i h e = absurd (not-suc-le-zero h)
some_of_lem (suc n) f i h e =
    choice (λ x. x ≡ true) (f n) true (some_below n f) (λ q. refl)
    (λ q. some_of_lem n f i (by (ltb i n) (λ l. ltb-true i n l) (λ l. let m : n ≤ i = ltb-false i n l in let z : i ≡ n = omega arith in no_both (rw z at e) q)) e)

pub none_of : (n : ℕ) (f : ℕ → Bool) (i : ℕ) → some_below n f ≡ false → i < n → f i ≡ false
none_of n f i e h = by (f i) (λ q. no_both (some_of_lem n f i h q) e) (λ q. q)

pub none_below : (n : ℕ) (f : ℕ → Bool) → ((i : ℕ) → i < n → f i ≡ false) → some_below n f ≡ false
unfolding some_below
none_below zero f h = refl
none_below (suc n) f h =
    choice (λ x. x ≡ false) (f n) true (some_below n f) (λ q. no_both q (h n (omega arith))) (λ q. none_below n f (λ i l. h i (omega arith)))

-- some number below n of which f holds
pub some_at : (n : ℕ) (f : ℕ → Bool) → some_below n f ≡ true → (i : ℕ) × (i < n) × (f i ≡ true)
unfolding some_below
some_at zero f e = no_both e refl
some_at (suc n) f e = go (f n) refl e (some_at n f)
  where
    go : (b : Bool) → f n ≡ b → ◌≡◌ {A = Bool} (elim b as (λ z. Bool) [ true ↦ true | false ↦ some_below n f ]) true → (some_below n f ≡ true → (i : ℕ) × (i < n) × (f i ≡ true)) → (i : ℕ) × (i < suc n) × (f i ≡ true)
    go true q h k = (n, omega arith, q)
    go false q h k = let w = k h in (w.0, omega (arith, w.1), w.2)

pub some_more : (n : ℕ) (f : ℕ → Bool) → some_below (suc n) f ≡ (f n || some_below n f)
unfolding some_below
some_more n f = or_choice (f n) (some_below n f)

pub some_same : (n : ℕ) {f g : ℕ → Bool} → ((i : ℕ) → i < n → f i ≡ g i) → some_below n f ≡ some_below n g
unfolding some_below
some_same zero h = refl
some_same (suc n) {f} {g} h =
    some_more n f ∙ ap₂ ◌||◌ (h n (omega arith)) (some_same n (λ i l. h i (omega arith))) ∙ sym (some_more n g)

pub some_or : (n : ℕ) (f g : ℕ → Bool) → some_below n (λ i. f i || g i) ≡ (some_below n f || some_below n g)
unfolding some_below
some_or zero f g = refl
some_or (suc n) f g = some_more n (λ i. f i || g i) ∙ rw (some_or n f g, some_more n f, some_more n g) (swap (f n) (g n) (some_below n f) (some_below n g))
  where
    swap : (a b c d : Bool) → ((a || b) || (c || d)) ≡ ((a || c) || (b || d))
    swap true b c d = refl
    swap false true c d = sym (or_comm c true)
    swap false false c d = refl

-- ---- what stands in a list
pub is_in_cons : (c x : ℕ) (l : List ℕ) → is_in c (x ∷ l) ≡ (eqb c x || is_in c l)
unfolding is_in
is_in_cons c x l = or_choice (eqb c x) (is_in c l)

pub in_front : (x : ℕ) (l : List ℕ) → is_in x (x ∷ l) ≡ true
in_front x l = is_in_cons x x l ∙ or_l (eqb x x) (is_in x l) (eq-eqb x x refl)

pub in_rest : (c x : ℕ) (l : List ℕ) → is_in c l ≡ true → is_in c (x ∷ l) ≡ true
in_rest c x l h = is_in_cons c x l ∙ or_r (eqb c x) (is_in c l) h

pub in_cases : (c x : ℕ) (l : List ℕ) {P : Type 0} → (c ≡ x → P) → (is_in c l ≡ true → P) → is_in c (x ∷ l) ≡ true → P
in_cases c x l f g h = or_elim (eqb c x) (is_in c l) (λ e. f (eqb-true c x e)) g (sym (is_in_cons c x l) ∙ h)

-- an entry does
pub is_in_lem : (l : List ℕ) (k d : ℕ) → (get_or l k d ≡ d → ⊥) → is_in (get_or l k d) l ≡ true
is_in_lem [] k d h = absurd (h refl)
is_in_lem (x ∷ xs) zero d h = in_front x xs
is_in_lem (x ∷ xs) (suc k) d h = in_rest (get_or xs k d) x xs (is_in_lem xs k d h)

-- ---- an element after `set`
pub set_cases : {A : Type 0} (l : List A) (i : ℕ) (a : A) (k : ℕ) (d : A) (P : A → Type 0) → P a → P (get_or l k d) → P (get_or (set l i a) k d)
set_cases {A} l i a k d P h g = go (ℕ_discrete k i) (dec_lt i (length l))
  where
    go : Dec (k ≡ i) → Dec (i < length l) → P (get_or (set l i a) k d)
    go (yes e) (yes m) = rw (e, get_or-set_same l i a d m) h
    go (yes e) (no m) = rw (set_out l i a (omega arith)) g
    go (no e) m = rw (get_or-set_other l i k a d e) g

-- ---- the first test of two lists
pub first_some : (ts us : List Test) (n : ℕ) → first_that ts ≡ some n → first_that (ts ++ us) ≡ some n
unfolding first_that
first_some [] us n e = absurd (let z : ◌≡◌ {A = ℕ} 0 1 = cc in let y : ⊥ = omega arith in y)
first_some (some k ∷ ts) us n e = e
first_some (none ∷ ts) us n e = first_some ts us n e

pub first_none : (ts us : List Test) → first_that ts ≡ none → first_that (ts ++ us) ≡ first_that us
unfolding first_that
first_none [] us e = refl
first_none (some k ∷ ts) us e = absurd (let z : ◌≡◌ {A = ℕ} 0 1 = cc in let y : ⊥ = omega arith in y)
first_none (none ∷ ts) us e = first_none ts us e

pub none_is : {A : Type 0} (o : Option A) → is_none o ≡ true → o ≡ none
unfolding is_none
none_is none h = refl
none_is (some x) h = no_both h refl

-- ---- of the tests of a list none holds
unfoldable pub AllNone : List Test → Type 0
AllNone [] = Unit {0}
AllNone (t ∷ ts) = (t ≡ none) × AllNone ts

pub all_none : (ts : List Test) → first_that ts ≡ none → AllNone ts
unfolding first_that AllNone
all_none [] h = tt
all_none (some n ∷ ts) h = absurd (let z : ◌≡◌ {A = ℕ} 0 1 = cc in let y : ⊥ = omega arith in y)
all_none (none ∷ ts) h = (refl, all_none ts h)

pub first_of_none : (ts : List Test) → AllNone ts → first_that ts ≡ none
unfolding first_that AllNone
first_of_none [] h = refl
first_of_none (t ∷ ts) h = rw h.0 (first_of_none ts h.1)

-- the condition of a test that doesn't hold, condition and number of one that does
pub untrue : (b : Bool) (n : ℕ) → (b ⇒ n) ≡ none → b ≡ false
unfolding ◌⇒◌
untrue true n e = absurd (let z : ◌≡◌ {A = ℕ} 0 1 = cc in let y : ⊥ = omega arith in y)
untrue false n e = refl

pub holding : (b : Bool) (n m : ℕ) → (b ⇒ n) ≡ some m → (b ≡ true) × (m ≡ n)
unfolding ◌⇒◌
holding true n m e = (refl, cc)
holding false n m e = absurd (let z : ◌≡◌ {A = ℕ} 0 1 = cc in let y : ⊥ = omega arith in y)
